use Rattle.std.proofs.Common.{◌≡◌, ℕ, ◌+◌, ◌++◌, string_bytes}
use Rattle.std.specs.Slice.Iter.{split_inclusive_rest}
use Rattle.seconds.specs.Seconds.{Is}
use Rattle.seconds.specs.Report.{lines, numbered, sum, in_range}
use Rattle.seconds.proofs.report.add_up.Given as goal

-- What is printed, and the sum, as far as the lines have come.
abbrev pub invariant-loop-before : goal.invariant-loop-before
invariant-loop-before l =
    let to_come = lines (split_inclusive_rest l.before-iterator.iter) in
    record {
      can : (goal.iterator-loop-before).can_next l.before-iterator;
      ends : (goal.iterator-loop-before).is_finite l.before-iterator;
      text : string_bytes l.text ++ numbered (l.before-iterator.count + 1) to_come ≡ numbered 1 (lines l.input);
      total : (n : ℕ) × Is l.sum.0 (in_range n) × (n + sum to_come ≡ sum (lines l.input));
    }
