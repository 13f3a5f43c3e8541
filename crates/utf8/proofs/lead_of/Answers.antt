-- `utf8::lead_of` meets its contract: an arm is an alternative of UTF8-char, by its number, and 9 is past the last.
use native.Mathlib.Omega.{arith}
use Rattle.utf8.specs.Grammar.{UTF8_char}
use Rattle.utf8.specs.Steps.{due, valid_after}
use Rattle.utf8.proofs.Laws.{opens}
use Rattle.utf8.proofs.lead_of.Goals as goal

pub returns-in-224 : goal.returns-in-224
unfolding valid_after due UTF8_char
returns-in-224 c s = opens 2 _ s (omega arith)

pub returns-in-237 : goal.returns-in-237
unfolding valid_after due UTF8_char
returns-in-237 c s = opens 4 _ s (omega arith)

pub returns-in-240 : goal.returns-in-240
unfolding valid_after due UTF8_char
returns-in-240 c s = opens 6 _ s (omega arith)

pub returns-in-244 : goal.returns-in-244
unfolding valid_after due UTF8_char
returns-in-244 c s = opens 8 _ s (omega arith)

pub returns-then-b-le127 : goal.returns-then-b-le127
unfolding valid_after due UTF8_char
returns-then-b-le127 c s = opens 0 _ s (omega arith)

pub returns-in-194-to-223 : goal.returns-in-194-to-223
unfolding valid_after due UTF8_char
returns-in-194-to-223 c s = opens 1 _ s (omega arith)

pub returns-in-225-to-236 : goal.returns-in-225-to-236
unfolding valid_after due UTF8_char
returns-in-225-to-236 c s = opens 3 _ s (omega arith)

pub returns-in-238-to-239 : goal.returns-in-238-to-239
unfolding valid_after due UTF8_char
returns-in-238-to-239 c s = opens 5 _ s (omega arith)

pub returns-in-241-to-243 : goal.returns-in-241-to-243
unfolding valid_after due UTF8_char
returns-in-241-to-243 c s = opens 7 _ s (omega arith)

pub returns-in_default : goal.returns-in_default
unfolding valid_after due UTF8_char
returns-in_default c s = opens 9 _ s (omega arith)

pub returns-in_default-2 : goal.returns-in_default-2
unfolding valid_after due UTF8_char
returns-in_default-2 c s = opens 9 _ s (omega arith)
