-- Sums, differences and order of whole numbers, for `omega`, which reads z as `up z - down z`. A product is an unknown here.
use borrow.Author.Differences.{fits_out, same_out, Apart-out, lt_T, le_T, lt_not, le_not, lt-true, lt-false, le-true, le-false, true-lt, false-lt, true-le, false-le, not_negative_out, lt_out, le_out, fits_in, same_in, lt_in, le_in, below_in, at_most_in, not_negative_in, true_is_lt, false_is_lt, true_is_le, false_is_le, sum_is_lem, neg_is, abs_is, mag_is, back_is, small_is, read_fits, bits_is}

-- std's `ints` without products, quotients and remainders: what is linear in products as they are written
pub ruleset int_sums = (fits_out, same_out, Apart-out, lt_T, le_T, lt_not, le_not, lt-true, lt-false, le-true, le-false, true-lt, false-lt, true-le, false-le, not_negative_out, lt_out, le_out, fits_in, same_in, lt_in, le_in, below_in, at_most_in, not_negative_in, true_is_lt, false_is_lt, true_is_le, false_is_le, sum_is_lem, neg_is, abs_is, mag_is, back_is, small_is, read_fits, bits_is)
