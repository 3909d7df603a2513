-- Spans with the same magnitudes and the same sign show the same. Assumes nothing.
use Rattle.std.proofs.Common.{◌≡◌, refl, sym, ap, ◌∙◌, arith}
use Rattle.std.proofs.lemmas.Slice.Eq.{slice_eq-Decides}
use Rattle.std.proofs.lemmas.Bool.Decides.{Decides-eqb}
use Rattle.std.proofs.lemmas.Bool.{and_parts}
use Rattle.units.specs.declared.sign.Sign.{Sign}
use Rattle.spans.specs.Bits.{bits_of}
use Rattle.spans.specs.Magnitudes.{side}
use Rattle.spans.specs.Spans.{shown, Sameness}
use Rattle.spans.specs.declared.span.Span.{Span}

same_side : (s t : Sign) → side s ≡ side t → s ≡ t
same_side s t e = grind arith

-- The magnitudes tell the bits.
alike : (a b : Span) → a.magnitudes ≡ b.magnitudes → a.sign ≡ b.sign → shown a ≡ shown b
alike a b m s = let bits = a.told ∙ ap bits_of m ∙ sym b.told in cc

pub sameness : Sameness
sameness a b =
    let m = slice_eq-Decides Decides-eqb a.magnitudes b.magnitudes _ refl in
    let s = Decides-eqb (side a.sign) (side b.sign) in (
      λ h. let p = and_parts _ _ h in alike a b (m.0 p.0) (same_side a.sign b.sign (s.0 p.1)),
      λ e. rw (m.1 (ap (λ x. x.magnitudes) e)) (s.1 (ap (λ x. side x.sign) e)),
    )
