-- What the three receivers mean: their ends and their totals. Assumes nothing: these are definitions.
--     signed_ends      those of a signed duration
--     unsigned_ends    those of an unsigned duration
--     run_ends         those of a run counter
--     unsigned_total d the total of an unsigned duration
--     run_total c      the total of a run counter
use Rattle.std.specs.Prelude.{◌-◌, ◌*◌, ◌^◌, ℤ, pos, neg_ℤ}
use Rattle.std.specs.Duration.{as_nanos}
use Rattle.std.specs.declared.time.Duration.{Duration}
use Rattle.units.specs.declared.unit.Unit.TheVariants.{Second}
use Rattle.units.specs.Table.{ns}
use Rattle.durations.specs.Totals.{lowest_total, highest_total}
use Rattle.receivers.specs.declared.run_counter.RunCounter.{RunCounter}
use Rattle.receivers.specs.Takes.{Ends}

abbrev pub signed_ends : Ends
signed_ends = record { lowest_total = neg_ℤ (pos lowest_total); highest_total = pos highest_total; lowest_count = neg_ℤ (pos (2 ^ 63)); highest_count = pos (2 ^ 63 - 1) }

abbrev pub unsigned_ends : Ends
unsigned_ends = record { lowest_total = pos 0; highest_total = pos (2 ^ 64 * ns Second - 1); lowest_count = pos 0; highest_count = pos (2 ^ 64 - 1) }

abbrev pub run_ends : Ends
run_ends = record { lowest_total = neg_ℤ (pos (2 ^ 63)); highest_total = pos (2 ^ 63 - 1); lowest_count = neg_ℤ (pos (2 ^ 63)); highest_count = pos (2 ^ 63 - 1) }

abbrev pub unsigned_total : Duration → ℤ
unsigned_total d = pos (as_nanos d)

abbrev pub run_total : RunCounter → ℤ
run_total c = c.nanos
