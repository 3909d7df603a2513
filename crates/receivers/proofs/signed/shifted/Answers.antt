use Rattle.std.proofs.Common.{◌≡◌, ℕ, ◌+◌, ◌≤◌, Bool, ℤ, ◌+ℤ◌, arith, rules}
use Rattle.std.proofs.lemmas.Int.{ints}
use Rattle.std.specs.Duration.{as_nanos}
use Rattle.units.specs.Signs.{signed}
use Rattle.durations.specs.Totals.{total, Fits}
use Rattle.durations.proofs.Ranges.{fits}
use Rattle.receivers.proofs.signed.shifted.Goals as goal

-- A part of the way ends between the first total and the last.
part_way : (t : ℤ) (b : Bool) (k n : ℕ) → k ≤ n → Fits t → Fits (t +ℤ signed b n) → Fits (t +ℤ signed b k)
part_way t b k n h i j = grind (arith, ints)

further : (t : ℤ) (b : Bool) (m n : ℕ) → t +ℤ signed b m +ℤ signed b n ≡ t +ℤ signed b (m + n)
further t b m n = grind (arith, ints)

pub returns-in_err-first : goal.returns-in_err-first
returns-in_err-first c =
    let d = c.args.before in
    rw c.from_residual.ensures (λ fit. c.in_err-first.ensures (rw c.with_sign-half.ensures (part_way (total d) c.args.negative (as_nanos c.div-part.result) (as_nanos c.args.time) (omega (arith, c.div-part.ensures)) (fits d.secs d.nanos (search rules) d.small) fit)))

pub returns-in_err-second : goal.returns-in_err-second
returns-in_err-second c =
    let d = c.args.before in
    let b = c.args.negative in
    let h = as_nanos c.div-part.result in
    rw c.from_residual-in_err-second.ensures (λ fit. c.in_err-second.ensures (rw (c.in_ok-first.ensures.1, c.with_sign-half.ensures, further (total d) b h h) (part_way (total d) b (h + h) (as_nanos c.args.time) (omega (arith, c.div-part.ensures)) (fits d.secs d.nanos (search rules) d.small) fit)))

pub returns : goal.returns
returns c =
    let t = total c.args.before in
    let b = c.args.negative in
    let n = as_nanos c.args.time in
    let h = as_nanos c.div-part.result in
    let r = as_nanos c.sub-2.result in
    let all : h + h + r ≡ n = omega (arith, c.sub.ensures, c.sub-2.ensures) in
    let sum : total c.in_ok-second.second +ℤ total c.with_sign.result ≡ t +ℤ signed b n = rw (c.in_ok-second.ensures.1, c.in_ok-first.ensures.1, c.with_sign-half.ensures, c.with_sign.ensures, further t b h h, further t b (h + h) r, all) in
    rw sum at c.checked_add-3.ensures
