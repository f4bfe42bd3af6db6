-- How a tally counts.
use Rattle.std.specs.Prelude.{ℕ, ◌+◌, ◌-◌, ◌^◌, min, List, slice_index, slice_set}
use Rattle.recordings.specs.declared.make.Kind.{Kind}
use Rattle.recordings.specs.declared.make.Kind.TheVariants.{Bounded, Ordered, Growing, GrowingOrdered, Merge, GrowingMerge}
use Rattle.replay.specs.declared.tally.Tally.{Tally}

-- A count stops at the largest number.
abbrev pub more : ℕ → ℕ
more n = min (n + 1) (2 ^ 64 - 1)

abbrev pub one_run : Tally → Tally
one_run t = record { runs = more t.runs; calls = t.calls; differences = t.differences; skipped = t.skipped }

abbrev pub one_call : Tally → Tally
one_call t = record { runs = t.runs; calls = more t.calls; differences = t.differences; skipped = t.skipped }

abbrev pub one_difference : Tally → Tally
one_difference t = record { runs = t.runs; calls = t.calls; differences = more t.differences; skipped = t.skipped }

abbrev pub one_more_at : ℕ → List ℕ → List ℕ
one_more_at i ns = slice_set ns i (more (slice_index ns i))

-- A run that is skipped, by its kind. Bounded sets, unordered and ordered, are delivered.
abbrev pub skipped_more : Kind → List ℕ → List ℕ
skipped_more Bounded ns = ns
skipped_more Ordered ns = ns
skipped_more Growing ns = one_more_at 2 ns
skipped_more GrowingOrdered ns = one_more_at 3 ns
skipped_more Merge ns = one_more_at 4 ns
skipped_more GrowingMerge ns = one_more_at 5 ns

abbrev pub one_skipped : Kind → Tally → Tally
one_skipped k t = record { runs = t.runs; calls = t.calls; differences = t.differences; skipped = skipped_more k t.skipped }
