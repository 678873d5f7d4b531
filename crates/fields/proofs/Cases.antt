-- Cases of fields, numbers and words, which the definitions compute.
use mathlib.Core.Path.{◌≡◌, refl}
use Rattle.digits.specs.Ascii.{bytes}
use Rattle.digits.specs.Digits.{digit_of}
use Rattle.std.specs.Prelude.{Some, None}
use Rattle.fields.specs.Line.{next_field, rest_after}
use Rattle.fields.specs.Numbers.{with_digit, decimal_in, word_in}

largest_number : decimal_in (bytes "4294967295") ≡ Some 4294967295
unfolding digit_of with_digit
largest_number = refl

number_too_large : decimal_in (bytes "4294967296") ≡ None
unfolding digit_of with_digit
number_too_large = refl

lower_case_word : word_in (bytes "7ffffffe") ≡ Some 0x7ffffffe
unfolding digit_of word_in
lower_case_word = refl

upper_case_word : word_in (bytes "7fffffFe") ≡ None
unfolding digit_of word_in
upper_case_word = refl

word_too_short : word_in (bytes "7fffffe") ≡ None
unfolding digit_of word_in
word_too_short = refl

field_after_spaces : next_field (bytes "  ab c") ≡ Some (bytes "ab")
field_after_spaces = refl

left_after_a_field : rest_after (bytes "  ab c") ≡ bytes " c"
left_after_a_field = refl

only_spaces : next_field (bytes "  ") ≡ None
only_spaces = refl
