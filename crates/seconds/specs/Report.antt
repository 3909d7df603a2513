-- The report on lines of seconds. Assumes nothing: these are definitions.
--     is_feed b     the byte b is a line feed
--     onto b ls     the lines ls with the byte b put before the first
--     lines bs      the lines of bs; a line feed ends a line, and one at the end starts no further line
--     answer_text r what is printed of an answer
--     line_text n l what is printed of the line l, the n-th
--     numbered n ls the same of each of ls, counted from n
--     time r        the nanoseconds of an answer, none if it is a refusal
--     sum ls        the nanoseconds that the lines say together; one that is refused adds nothing
--     in_range n    n nanoseconds as an answer, refused where no duration lasts so long
--     summed ls     the same of the sum
--     report bs     what is printed on the input bs
use Rattle.std.specs.Prelude.{ℕ, ◌+◌, Bool, cond, List, [], ◌∷◌, ◌++◌, ℤ, pos, Ok, Err, codes, decimal, Result, ◌==◌, nat_le}
use Rattle.std.specs.Result.{result_map_both}
use Rattle.units.specs.declared.fault.Fault.{Fault}
use Rattle.units.specs.declared.fault.Fault.TheVariants.{OverflowForUnit}
use Rattle.units.specs.declared.unit.Unit.TheVariants.{Second}
use Rattle.units.specs.Refusals.{refusal_text}
use Rattle.durations.specs.Shown.{shown}
use Rattle.durations.specs.Totals.{highest_total}
use Rattle.seconds.specs.Seconds.{seconds}

abbrev pub is_feed : ℕ → Bool
is_feed b = b == 10

abbrev pub onto : ℕ → List (List ℕ) → List (List ℕ)
onto b [] = (b ∷ []) ∷ []
onto b (l ∷ ls) = (b ∷ l) ∷ ls

unfoldable pub lines : List ℕ → List (List ℕ)
lines [] = []
lines (b ∷ bs) = cond (is_feed b) ([] ∷ lines bs) (onto b (lines bs))

abbrev pub answer_text : Result ℤ Fault → List ℕ
answer_text (Ok z) = shown z
answer_text (Err f) = refusal_text f

abbrev pub line_text : ℕ → List ℕ → List ℕ
line_text n l = decimal n ++ (codes " " ++ (answer_text (result_map_both pos (λ f. f) (seconds l)) ++ codes "\n"))

unfoldable pub numbered : ℕ → List (List ℕ) → List ℕ
numbered n [] = []
numbered n (l ∷ ls) = line_text n l ++ numbered (n + 1) ls

abbrev pub time : Result ℕ Fault → ℕ
time (Ok n) = n
time (Err f) = 0

unfoldable pub sum : List (List ℕ) → ℕ
sum [] = 0
sum (l ∷ ls) = time (seconds l) + sum ls

abbrev pub in_range : ℕ → Result ℕ Fault
in_range n = cond (nat_le n highest_total) (Ok n) (Err (OverflowForUnit Second))

abbrev pub summed : List (List ℕ) → Result ℕ Fault
summed ls = in_range (sum ls)

abbrev pub report : List ℕ → List ℕ
report bs = numbered 1 (lines bs) ++ (codes "total " ++ (answer_text (result_map_both pos (λ f. f) (summed (lines bs))) ++ codes "\n"))
