use Rattle.std.proofs.Common.{◌≡◌, ◌++◌, map, length, drop}
use Rattle.std.specs.Duration.{as_nanos}
use Rattle.std.specs.Iterator.Adapters.{rev_source, enumerate_source, enumerate_count}
use Rattle.std.specs.Slice.Iter.{iter_rest}
use Rattle.spreading.specs.Spreading.{levels, left, kept}
use Rattle.spreading.specs.Steps.{seen}
use Rattle.spreading.proofs.spreading.spread.Given as goal

-- the levels from the last one on are spread
abbrev pub invariant-loop-place : goal.invariant-loop-place
invariant-loop-place l =
    let rest = iter_rest (enumerate_source (rev_source l.place-iterator)) in
    let n = length rest in
    let ls = levels l.limits.limits l.counts l.fn.fraction l.fn.smallest in
    record {
      next : (goal.iterator-loop-place).can_next l.place-iterator;
      finite : (goal.iterator-loop-place).is_finite l.place-iterator;
      from_0 : enumerate_count (rev_source l.place-iterator) ≡ 0;
      to_go : map seen rest ++ drop n ls ≡ ls;
      long : length l.kept ≡ 6;
      stay : drop n l.kept ≡ kept (drop n ls);
      on : as_nanos l.passed ≡ left (drop n ls);
    }
