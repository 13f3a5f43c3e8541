-- What the calls of a run answer, put together.
use Prim.Native.Nat.{ℕ}
use mathlib.Core.List.{List}
use mathlib.Core.Path.{◌≡◌, ap, ◌∙◌}
use lib.ListN.{replicate}
use Rattle.host.specs.declared.hosting.RunSummary.{RunSummary}
use Rattle.host.specs.Hosting.{owned, own}
use Rattle.host.specs.AnsweringNumbers.{Told, told, answers}
use Rattle.host.specs.Answering.{new_stack, new_ends, new_pool, ran, with_numbers, with_owned, rafenuma_run}

pub runs_it : (fuel : ℕ) (memory image program new_image listing answer : List ℕ) {performed : RunSummary} {stack' memory' pool' ends' new-image' listing' : List ℕ} {r : ℕ} {answer' : List ℕ}
    → owned performed stack' memory' pool' ends' new-image' listing' ≡ own fuel (replicate 1000 0) memory (replicate 65536 0) (replicate 1024 0) new_image image program listing
    → told r answer' ≡ answers answer performed
    → ran r memory' new-image' listing' answer' ≡ rafenuma_run fuel memory image program new_image listing answer
unfolding rafenuma_run with_owned new_stack new_ends new_pool
runs_it fuel memory image program new_image listing answer {performed} {stack'} {memory'} {pool'} {ends'} {new-image'} {listing'} owns tells =
    ap (λ (t : Told). with_numbers (owned performed stack' memory' pool' ends' new-image' listing') t) tells ∙ ap (with_owned answer) owns
