-- What a signed duration means. Assumes nothing: these are definitions.
--     total d        how many nanoseconds d lasts, of either sign
--     lowest_total   how far below 0 a total can be
--     highest_total  how far above 0 a total can be
--     Fits z         z is between these two
--     Exact r z      r lasts exactly z, or is absent because z does not fit
--     Count z        z is an i64
--     Split n z p    p counts the whole n's in z, cut toward zero, and has a duration of what is left
--     Counted n z r  the same, or absent because the count is no i64
--     Cut n z q r    q whole n's and r more make up z, less than one n is left, and neither passes z or 0
--     Cuts           the quotient and the rest in Split are such
--     OneSide s n    neither is above 0 while the other is below
--     PerSecond k m k units of m nanoseconds are a second
use Rattle.std.specs.Prelude.{◌≡◌, ℕ, ◌+◌, ◌-◌, ◌*◌, ◌^◌, ◌<◌, ℤ, pos, ◌+ℤ◌, ◌*ℤ◌, neg_ℤ, ◌≤ℤ◌, ◌<ℤ◌, Some, None, Option, int_div, int_rem, unsigned_abs}
use Rattle.units.specs.Table.{ns}
use Rattle.units.specs.declared.unit.Unit.TheVariants.{Second}
use Rattle.durations.specs.declared.signed_duration.SignedDuration.{SignedDuration}

abbrev pub total : SignedDuration → ℤ
total d = d.secs *ℤ pos (ns Second) +ℤ d.nanos

abbrev pub lowest_total : ℕ
lowest_total = 2 ^ 63 * ns Second + (ns Second - 1)

abbrev pub highest_total : ℕ
highest_total = (2 ^ 63 - 1) * ns Second + (ns Second - 1)

pub record Fits (z : ℤ) : Type 0 where
  pub lowest : neg_ℤ (pos lowest_total) ≤ℤ z
  pub highest : z ≤ℤ pos highest_total

abbrev pub Exact : Option SignedDuration → ℤ → Type 0
Exact (Some d) z = Fits z × (total d ≡ z)
Exact None z = Fits z → ⊥

pub record Count (z : ℤ) : Type 0 where
  pub lowest : neg_ℤ (pos (2 ^ 63)) ≤ℤ z
  pub highest : z ≤ℤ pos (2 ^ 63 - 1)

pub record Split (n : ℕ) (z : ℤ) (p : ℤ × SignedDuration) : Type 0 where
  pub count : p.0 ≡ int_div z (pos n)
  pub rest : total p.1 ≡ int_rem z (pos n)

abbrev pub Counted : ℕ → ℤ → Option (ℤ × SignedDuration) → Type 0
Counted n z (Some p) = Count (int_div z (pos n)) × Split n z p
Counted n z None = Count (int_div z (pos n)) → ⊥

pub record Cut (n : ℕ) (z q r : ℤ) : Type 0 where
  pub sum : z ≡ q *ℤ pos n +ℤ r
  pub short : unsigned_abs r < n
  pub inside : unsigned_abs z ≡ unsigned_abs q * n + unsigned_abs r

abbrev pub Cuts : Type 0
Cuts = (n : ℕ) (z : ℤ) → 0 < n → Cut n z (int_div z (pos n)) (int_rem z (pos n))

abbrev pub OneSide : ℤ → ℤ → Type 0
OneSide s n = (pos 0 <ℤ s → pos 0 ≤ℤ n) × (s <ℤ pos 0 → n ≤ℤ pos 0)

pub record PerSecond (k m : ℤ) : Type 0 where
  pub units : (pos 0 <ℤ k) × (k ≤ℤ pos (ns Second))
  pub nanos : (pos 0 <ℤ m) × (m ≤ℤ pos (ns Second))
  pub second : k *ℤ m ≡ pos (ns Second)
