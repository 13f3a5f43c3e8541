-- A record that is loaded: its task read, its instructions interned.
use Prim.Native.Nat.{ℕ, ◌+◌, ◌-◌, ◌<◌, min}
use mathlib.Core.Bool.{Bool, true, false}
use mathlib.Core.List.{List}
use mathlib.Core.Path.{◌≡◌, refl, ap, ◌∙◌}
use native.Mathlib.Omega.{arith}
use lib.ListN.{length, take, drop}
use Rattle.errors.specs.declared.Refusal.TheVariants.{PoolFull}
use Rattle.errors.specs.declared.Refusal.{Refusal}
use Rattle.image.specs.Walking.{read_record}
use Rattle.image.specs.Table.{bytes_after, entries_after, next_reference}
use Rattle.image.specs.Writing.{stepped}
use Rattle.image.specs.declared.Record.{Record}
use Rattle.pools.proofs.Interns.{room, when_full}
use Rattle.pools.specs.Pool.{has_room, Pooled, pooled, interned}
use Rattle.pools.specs.declared.InstructionsRef.{InstructionsRef}
use Rattle.table_image.specs.Loops.{instructions_of, load_record}
use Rattle.std.specs.Prelude.{Ok, Err, Result}

-- what was interned is one of at most 1,024 entries
pub few_entries : (pool ends : List ℕ) (bytes entries : ℕ) (instructions : List ℕ) {answer : Result (InstructionsRef × ℕ) Refusal} {after new : List ℕ} {entry : InstructionsRef} {used : ℕ} → pooled answer after new ≡ interned pool ends bytes entries instructions → answer ≡ Ok (entry, used) → entries < 1024
few_entries pool ends bytes entries instructions {answer} {after} {new} {entry} {used} is held = by (has_room (length pool) bytes entries (length instructions)) refl
  where
    by : (test : Bool) → has_room (length pool) bytes entries (length instructions) ≡ test → entries < 1024
    by true roomy = (room (length pool) bytes entries (length instructions) roomy).few
    by false full =
        let a : answer ≡ Err PoolFull = ap (λ (p : Pooled). p.answer) (is ∙ when_full pool ends bytes entries instructions full) in
        absurd (let z : ◌≡◌ {A = ℕ} 0 1 = cc in omega arith)

module _ (pool ends image : List ℕ) (at bytes entries : ℕ) {n size : ℕ} {r : Record} {part after new : List ℕ} {answer : Result (InstructionsRef × ℕ) Refusal}
    (few : n ≡ min entries 1024) (read : r ≡ read_record image at (record { 0 = n })) (long : size ≡ r.end - r.start) (is : part ≡ take size (drop r.start image))
    (pool-is : pooled answer after new ≡ interned pool ends bytes entries part) where
  read_is : r ≡ read_record image at (next_reference entries)
  unfolding next_reference
  read_is = rw few at read

  part_is : part ≡ instructions_of image r
  part_is = rw long at is

  loaded_as : stepped (record { task = r.task; end = r.end; bytes = bytes_after answer bytes; entries = entries_after answer entries }) after new ≡ load_record pool ends image at bytes entries
  unfolding load_record
  loaded_as = rw (← read_is, ← part_is, ← pool-is)

  -- a record whose instructions were interned
  pub loaded_more : {entry : InstructionsRef} {used : ℕ} → answer ≡ Ok (entry, used) → stepped (record { task = r.task; end = r.end; bytes = used; entries = entries + 1 }) after new ≡ load_record pool ends image at bytes entries
  unfolding bytes_after entries_after
  loaded_more held = rw held at loaded_as

  -- one whose instructions had no room
  pub loaded_not : {refusal : Refusal} → answer ≡ Err refusal → stepped (record { task = r.task; end = r.end; bytes = bytes; entries = entries }) after new ≡ load_record pool ends image at bytes entries
  unfolding bytes_after entries_after
  loaded_not held = rw held at loaded_as
