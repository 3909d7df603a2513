-- A line is answered by what it says, and by nothing else. Assumes nothing.
use Rattle.std.proofs.Common.{◌≡◌, ℕ, ◌+◌, ◌*◌, ◌^◌, ◌<◌, ◌≤◌, false, List, [], ◌∷◌, length, Ok, sym, refl, ap, ◌∙◌, inl, inr, arith}
use Rattle.std.proofs.lemmas.List.{append-nil}
use Rattle.std.proofs.lemmas.Bool.{cases_Bool, cases_lt, lt-ltb, le-ltb}
use Rattle.std.proofs.lemmas.Bool.Decides.{nat_tests}
use Rattle.units.specs.declared.unit.Unit.TheVariants.{Second}
use Rattle.units.specs.Table.{ns}
use Rattle.digits.specs.Numbers.{is_separator, number, billionths, front, behind, prefix_by, fraction_by, temporal_fraction}
use Rattle.digits.specs.Laws.{digit_leads}
use Rattle.digits.proofs.Fronts.{front_law, front_only}
use Rattle.seconds.specs.Seconds.{with_fraction, by_prefix, seconds}
use Rattle.seconds.specs.Laws.{Digits, Ends, Says, Reads}

nothing : billionths [] ≡ 0
unfolding number
nothing = refl

-- What follows the whole seconds, once they are m.
pub record Follows (m : ℕ) (rest : List ℕ) (n : ℕ) : Type 0 where
  pub part : List ℕ
  pub ends : Ends rest part
  pub digits : Digits part
  pub few : length part ≤ 9
  pub time : n ≡ m * ns Second + billionths part

by_part : (m n : ℕ) (ds rest : List ℕ) → with_fraction m (fraction_by ds rest) ≡ Ok n → (0 < length ds) × (rest ≡ []) × (n ≡ m * ns Second + billionths ds)
by_part m n [] rest e = cc
by_part m n (d ∷ ds) [] e = (omega arith, refl, cc)
by_part m n (d ∷ ds) (b ∷ rest) e = cc

follows : (m n : ℕ) (rest : List ℕ) → with_fraction m (temporal_fraction rest) ≡ Ok n → Follows m rest n
follows m n [] e = record { part = []; ends = refl; digits = tt; few = omega arith; time = rw nothing (cc) }
follows m n (s ∷ bs) e = elim (cases_Bool (is_separator s)) [
  | inl yes' ↦
      let read = front_law 9 bs in
      let p = by_part m n (front 9 bs) (behind 9 bs) (rw yes' at e) in
      record { part = front 9 bs; ends = (yes', rw (p.1, append-nil) at (sym read.whole), p.0); digits = read.digits; few = read.few; time = p.2 }
  | inr no' ↦ let f = rw no' at e in cc
]

by_whole : (n : ℕ) (ds rest : List ℕ) → by_prefix (prefix_by ds rest) ≡ Ok n → (0 < length ds) × (number ds < 2 ^ 63) × (with_fraction (number ds) (temporal_fraction rest) ≡ Ok n)
by_whole n [] rest e = cc
by_whole n (d ∷ ds) rest e =
    let m = number (d ∷ ds) in
    elim (cases_lt m (2 ^ 63)) [
      | inl h ↦ (omega arith, h, rw (lt-ltb m (2 ^ 64) (omega arith), lt-ltb m (2 ^ 63) h) at e)
      | inr h ↦ elim (cases_lt m (2 ^ 64)) [
        | inl k ↦ let f = rw (lt-ltb m (2 ^ 64) k, le-ltb m (2 ^ 63) h) at e in cc
        | inr k ↦ let f = rw (le-ltb m (2 ^ 64) k) at e in cc
      ]
    ]

says : (bs : List ℕ) (n : ℕ) → seconds bs ≡ Ok n → Says bs n
says bs n e =
    let read = front_law 21 bs in
    let w = by_whole n (front 21 bs) (behind 21 bs) e in
    let f = follows (number (front 21 bs)) n (behind 21 bs) w.2 in
    record {
      secs = front 21 bs;
      part = f.part;
      rest = behind 21 bs;
      text = sym read.whole;
      ends = f.ends;
      digits = (read.digits, f.digits);
      long = (w.0, read.few, f.few);
      small = w.1;
      time = f.time;
    }

no_digit : (rest part : List ℕ) → Ends rest part → digit_leads rest ≡ false
no_digit [] part e = refl
no_digit (s ∷ rest) part e = let sep = e.0 in grind (arith, nat_tests)

in_part : (m n : ℕ) (part : List ℕ) → 0 < length part → n ≡ m * ns Second + billionths part → with_fraction m (fraction_by part []) ≡ Ok n
in_part m n [] some t = absurd (omega arith)
in_part m n (d ∷ ds) some t = ap (λ x. Ok x) (sym t)

ended_by : (m n : ℕ) (rest part : List ℕ) → Ends rest part → Digits part → length part ≤ 9 → n ≡ m * ns Second + billionths part → with_fraction m (temporal_fraction rest) ≡ Ok n
ended_by m n [] part e all few t = ap (λ x. Ok x) (sym (t ∙ ap (λ x. m * ns Second + x) (ap billionths e ∙ nothing)))
ended_by m n (s ∷ rest) part e all few t =
    let only = front_only 9 rest part [] (record { whole = append-nil part ∙ sym e.1; digits = all; few = few; longest = λ _. refl }) in
    rw e.0 (ap (λ r. with_fraction m (fraction_by (front 9 rest) r)) (sym only.1) ∙ ap (λ ds. with_fraction m (fraction_by ds [])) (sym only.0) ∙ in_part m n part e.2 t)

in_whole : (n : ℕ) (ds rest : List ℕ) → 0 < length ds → number ds < 2 ^ 63 → with_fraction (number ds) (temporal_fraction rest) ≡ Ok n → by_prefix (prefix_by ds rest) ≡ Ok n
in_whole n [] rest some small e = absurd (omega arith)
in_whole n (d ∷ ds) rest some small e = rw (lt-ltb (number (d ∷ ds)) (2 ^ 64) (omega arith), lt-ltb (number (d ∷ ds)) (2 ^ 63) small) e

said : (bs : List ℕ) (n : ℕ) → Says bs n → seconds bs ≡ Ok n
said bs n s =
    let only = front_only 21 bs s.secs s.rest (record { whole = sym s.text; digits = s.digits.0; few = s.long.1; longest = λ _. no_digit s.rest s.part s.ends }) in
    let tail = ended_by (number s.secs) n s.rest s.part s.ends s.digits.1 s.long.2 s.time in
    ap (λ r. by_prefix (prefix_by (front 21 bs) r)) (sym only.1) ∙ ap (λ ds. by_prefix (prefix_by ds s.rest)) (sym only.0) ∙ in_whole n s.secs s.rest s.long.0 s.small tail

pub reads : (bs : List ℕ) → Reads bs (seconds bs)
reads bs n = (says bs n, said bs n)
