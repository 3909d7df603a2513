-- What fits: sums, negations and carries of seconds and nanoseconds. Assumes nothing.
use Rattle.std.proofs.Common.{◌≡◌, ◌+◌, ◌<◌, ℤ, pos, ◌+ℤ◌, ◌-ℤ◌, ◌*ℤ◌, neg_ℤ, nat_abs, arith, w32, w64, SFits}
use lib.Signed.{quot_z, rem_z}
use Rattle.std.proofs.lemmas.Int.{ints}
use Rattle.units.specs.Table.{ns}
use Rattle.units.specs.declared.unit.Unit.TheVariants.{Second}
use Rattle.durations.specs.Totals.{Fits}
use Rattle.durations.proofs.Parting.{cuts}

pub sums : (a b p q s : ℤ) → s ≡ a +ℤ b → s *ℤ pos (ns Second) +ℤ (p +ℤ q) ≡ (a *ℤ pos (ns Second) +ℤ p) +ℤ (b *ℤ pos (ns Second) +ℤ q)
sums a b p q s e = omega (arith, ints)

pub sum_fits : (p q : ℤ) → nat_abs p < ns Second → nat_abs q < ns Second → SFits w32 (p +ℤ q)
sum_fits p q h l = omega (arith, ints)

pub negated : (s p n : ℤ) → n ≡ neg_ℤ s → n *ℤ pos (ns Second) +ℤ (pos 0 -ℤ p) ≡ neg_ℤ (s *ℤ pos (ns Second) +ℤ p)
negated s p n e = omega (arith, ints)

pub negated_small : (p : ℤ) → nat_abs p < ns Second → nat_abs (pos 0 -ℤ p) < ns Second
negated_small p h = omega (arith, ints)

pub small_fits : (p : ℤ) → nat_abs p < ns Second → SFits w32 p
small_fits p h = omega (arith, ints)

pub fits : (s p : ℤ) → SFits w64 s → nat_abs p < ns Second → Fits (s *ℤ pos (ns Second) +ℤ p)
fits s p whole small = record { lowest = omega (arith, ints); highest = omega (arith, ints) }

pub fits_secs : (s : ℤ) → SFits w64 s → Fits (s *ℤ pos (ns Second))
fits_secs s whole = record { lowest = omega (arith, ints); highest = omega (arith, ints) }

pub sum_within : (a b p q : ℤ) → SFits w64 a → SFits w64 b → nat_abs p < ns Second → nat_abs q < ns Second → nat_abs (a +ℤ p) ≡ nat_abs a + nat_abs p → nat_abs (b +ℤ q) ≡ nat_abs b + nat_abs q → Fits ((a *ℤ pos (ns Second) +ℤ p) +ℤ (b *ℤ pos (ns Second) +ℤ q)) → SFits w64 (a +ℤ b)
sum_within a b p q x y h l e f fit = omega (arith, ints)

pub wide : (p : ℤ) → SFits w32 p → SFits w64 p
wide p h = omega (arith, ints)

pub carried : (s p q r n : ℤ) → q ≡ quot_z p (pos (ns Second)) → r ≡ rem_z p (pos (ns Second)) → n ≡ s +ℤ q → n *ℤ pos (ns Second) +ℤ r ≡ s *ℤ pos (ns Second) +ℤ p
carried s p q r n e f g = let parts = cuts (ns Second) p (omega arith) in omega (arith, ints)

pub carried_out : (s p q : ℤ) → SFits w64 s → q ≡ quot_z p (pos (ns Second)) → Fits (s *ℤ pos (ns Second) +ℤ p) → SFits w64 (s +ℤ q)
carried_out s p q h e fit = let parts = cuts (ns Second) p (omega arith) in omega (arith, ints)

pub rest_small : (p r : ℤ) → r ≡ rem_z p (pos (ns Second)) → nat_abs r < ns Second
rest_small p r e = rw e (cuts (ns Second) p (omega arith)).short
