-- Sets of units as numbers. Assumes nothing: these are definitions.
--     bit n k        bit k of n
--     one_if b       1 if b, else 0
--     with_bit n k b n with bit k put to 1 if b, else to 0
--     bits_of ms     the number whose bit k is 1 exactly where element k of ms is not 0
--     number u       the set of units u as a number, in which bit k stands for the unit of code k
use Rattle.std.specs.Prelude.{ℕ, ◌+◌, ◌-◌, ◌*◌, ◌/◌, ◌%◌, ◌^◌, Bool, cond, not, List, [], ◌∷◌, ◌==◌}
use Rattle.spans.specs.declared.unit_set.UnitSet.{UnitSet}

abbrev pub bit : ℕ → ℕ → ℕ
bit n k = n / 2 ^ k % 2

abbrev pub one_if : Bool → ℕ
one_if b = cond b 1 0

abbrev pub with_bit : ℕ → ℕ → Bool → ℕ
with_bit n k b = n - bit n k * 2 ^ k + one_if b * 2 ^ k

abbrev pub bits_of : List ℕ → ℕ
bits_of [] = 0
bits_of (m ∷ ms) = one_if (not (m == 0)) + bits_of ms * 2

abbrev pub number : UnitSet → ℕ
number u = u.bits
