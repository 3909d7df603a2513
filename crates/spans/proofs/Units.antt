-- Units by their codes, and what a span tells of each. Assumes nothing.
use Rattle.std.proofs.Common.{◌≡◌, get_or, ap, ◌∙◌, rules}
use Rattle.units.specs.Limits.{span_limits}
use Rattle.units.specs.Table.{code, unit_of, span_limit}
use Rattle.units.specs.declared.unit.Unit.{Unit as TimeUnit}
use Rattle.units.proofs.Tables.{table_rule}
use Rattle.spans.specs.Bits.{bit}
use Rattle.spans.specs.Spans.{Told}
use Rattle.spans.specs.declared.span.Span.{Span}
use Rattle.spans.proofs.Bitwise.{bits_of_bit}

-- No two units share a code.
pub apart : (u v : TimeUnit) → (v ≡ u → ⊥) → code v ≡ code u → ⊥
apart u v other e =
    let at-u = table_rule.coded u in
    let at-v = table_rule.coded v in
    let same = ap unit_of e in
    other (cc)

pub limit_at : (u : TimeUnit) → get_or span_limits (code u) 0 ≡ span_limit u
limit_at u = search rules

pub told : (s : Span) → Told s
told s = record {
  within = λ u. rw (limit_at u) at (s.within (code u));
  bits = λ u. ap (λ n. bit n (code u)) s.told ∙ bits_of_bit s.magnitudes (code u);
  sign = s.signed;
}
