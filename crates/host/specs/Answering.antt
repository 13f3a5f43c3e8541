-- The call that runs a program for a host: a fresh machine with buffers of its own, and what is lent to be written, after it.
use Rattle.std.specs.Prelude.{ℕ, List, replicate}
use Rattle.host.specs.Hosting.{Owned, own}
use Rattle.host.specs.AnsweringNumbers.{Told, answers}

-- the library's own buffers: zeros
unfoldable pub new_stack : List ℕ
new_stack = replicate 1000 0

unfoldable pub new_ends : List ℕ
new_ends = replicate 1024 0

unfoldable pub new_pool : List ℕ
new_pool = replicate 65536 0

-- the packed number, and everything lent to be written, after it; the image and the program are only read
pub record RunOn : Type 0 where
  pub answer : ℕ
  pub memory : List ℕ
  pub new_image : List ℕ
  pub listing : List ℕ
  pub numbers : List ℕ

abbrev pub ran : ℕ → List ℕ → List ℕ → List ℕ → List ℕ → RunOn
ran answer memory new_image listing numbers =
    record { answer = answer; memory = memory; new_image = new_image; listing = listing; numbers = numbers }

-- the numbers come last
abbrev pub with_numbers : Owned → Told → RunOn
with_numbers o t = ran t.answer o.memory o.save o.listing t.numbers

-- before them the run, its save and its listing
unfoldable pub with_owned : List ℕ → Owned → RunOn
with_owned answer o = with_numbers o (answers answer o.answer)

unfoldable pub rafenuma_run : ℕ → List ℕ → List ℕ → List ℕ → List ℕ → List ℕ → List ℕ → RunOn
rafenuma_run fuel memory image program new_image listing answer =
    with_owned answer (own fuel new_stack memory new_pool new_ends new_image image program listing)
