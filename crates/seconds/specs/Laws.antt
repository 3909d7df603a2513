-- The law of reading a line of seconds. Assumes nothing: these are statements.
--     Digits ds       every byte of ds is a digit
--     Ends rest part  rest is a separator and the bytes part, of which there is one at least, or both are nothing
--     Says bs n       the line bs says n nanoseconds: digits, and perhaps a separator and one to nine digits more
--     Reads bs r      r, the answer to the line bs, is n nanoseconds exactly when the line says them
use Rattle.std.specs.Prelude.{◌≡◌, ℕ, ◌+◌, ◌*◌, ◌^◌, ◌<◌, ◌≤◌, true, ◌↔◌, List, [], ◌∷◌, ◌++◌, length, Ok, Result}
use Rattle.std.specs.List.{AllByRecursion}
use Rattle.units.specs.declared.fault.Fault.{Fault}
use Rattle.units.specs.declared.unit.Unit.TheVariants.{Second}
use Rattle.units.specs.Table.{ns}
use Rattle.digits.specs.Numbers.{is_digit, is_separator, number, billionths}

abbrev pub Digits : List ℕ → Type 0
Digits ds = AllByRecursion (λ d. is_digit d ≡ true) ds

abbrev pub Ends : List ℕ → List ℕ → Type 0
Ends [] part = part ≡ []
Ends (s ∷ rest) part = (is_separator s ≡ true) × (rest ≡ part) × (0 < length part)

pub record Says (bs : List ℕ) (n : ℕ) : Type 0 where
  -- the digits of the whole seconds, those of the fraction, and the bytes after the former
  pub secs : List ℕ
  pub part : List ℕ
  pub rest : List ℕ
  pub text : bs ≡ secs ++ rest
  pub ends : Ends rest part
  pub digits : Digits secs × Digits part
  pub long : (0 < length secs) × (length secs ≤ 21) × (length part ≤ 9)
  pub small : number secs < 2 ^ 63
  pub time : n ≡ number secs * ns Second + billionths part

abbrev pub Reads : List ℕ → Result ℕ Fault → Type 0
Reads bs r = (n : ℕ) → (r ≡ Ok n) ↔ Says bs n
