-- How long an output can be. No contract of an entry point cites this. Assumes nothing.
use Rattle.std.specs.Prelude.{ℕ, ◌+◌, ◌*◌}
use Rattle.semigroups.specs.Tables.{largest_order}

-- A number of bytes that is enough for every output: 15 for the first record, and 9 for each element of a table of the largest order.
abbrev pub longest_output : ℕ
longest_output = 15 + 9 * largest_order
