-- A machine that was created rests at the start of its program, which is entry 0 of the pool.
use Prim.Native.Nat.{ℕ, zero, suc, ◌+◌, ◌<◌}
use mathlib.Core.Path.{◌≡◌, refl, sym, ◌∙◌, subst}
use mathlib.Core.Bool.{true, false}
use mathlib.Core.List.{List}
use native.Mathlib.Omega.{arith}
use lib.ListN.{length, replicate}
use Rattle.errors.specs.declared.Refusal.{Refusal}
use Rattle.pools.specs.Pool.{Pooled, entry_of, has_room, interned, end_to_end}
use Rattle.pools.proofs.Interns.{when_full}
use Rattle.inlinevec.specs.Stacks.{last_two}
use Rattle.storage.specs.declared.Task.{Task}
use Rattle.storage.specs.Tasks.{blank}
use Rattle.image.specs.Table.{Loading, bytes_after, entries_after, next_reference}
use Rattle.table_image.specs.Loops.{instructions_of, load_record, record_placed, load_records}
use Rattle.image.specs.Walking.{read_record}
use Rattle.table_image.specs.Tables.{in_use, loading}
use Rattle.machine.specs.declared.Machine.{Machine}
use Rattle.machine.specs.Machines.{current}
use Rattle.machine.specs.World.{world}
use Rattle.machine.specs.Calls.{may_continue}
use Rattle.machine.specs.Creation.{new_machine, Made, made, create}
use Rattle.mechanism.specs.Creating.{with_program, interned_program, prepare_fit, prepare, loaded_from, create_as, create_by_parts, create_ready}
use Rattle.mechanism.proofs.Creates.{create_is}
use Rattle.labels.specs.declared.Kind.{Kind}
use Rattle.labels.specs.Labels.{Labelled}
use Rattle.machine.specs.History.{new_world}
use Rattle.safety.proofs.Rules.{on_bool}
use Rattle.safety.proofs.Stands.{Main}
use Rattle.safety.proofs.Interned.{joins_one, none_pooled}
use Rattle.safety.proofs.Called.{Ready, rests}
use Rattle.std.specs.Prelude.{Ok, Err, Result}
use Rattle.pools.specs.declared.InstructionsRef.{InstructionsRef}
use Rattle.table_image.specs.declared.creation.Fit.{Fit}

-- a pool whose entries stand end to end, the program first
record Programmed (program pool ends : List ℕ) (bytes entries : ℕ) : Type 0 where
  lent : length ends ≡ 1024
  pooled : end_to_end ends bytes entries ≡ true
  some_entries : 0 < entries
  first : entry_of pool ends 0 ≡ program

-- one more entry, or none
interned_keeps : {program : List ℕ} (pool ends : List ℕ) (bytes entries : ℕ) (calldata : List ℕ) → Programmed program pool ends bytes entries
    → Programmed program (interned pool ends bytes entries calldata).pool (interned pool ends bytes entries calldata).ends
    (bytes_after (interned pool ends bytes entries calldata).answer bytes) (entries_after (interned pool ends bytes entries calldata).answer entries)
unfolding bytes_after entries_after
interned_keeps {program} pool ends bytes entries calldata p =
    on_bool (has_room (length pool) bytes entries (length calldata))
    (λ held. let j = joins_one pool ends bytes entries calldata p.lent p.pooled held in
    subst (λ (answer : Result (InstructionsRef × ℕ) Refusal). Programmed program (interned pool ends bytes entries calldata).pool (interned pool ends bytes entries calldata).ends (bytes_after answer bytes) (entries_after answer entries)) (sym j.answered)
    (record { lent = j.still_lent; pooled = j.still_pooled; some_entries = omega arith; first = j.old 0 p.some_entries ∙ p.first }))
    (λ failed. subst (λ (q : Pooled). Programmed program q.pool q.ends (bytes_after q.answer bytes) (entries_after q.answer entries)) (sym (when_full pool ends bytes entries calldata failed)) p)

abbrev Loaded : List ℕ → Loading → Type 0
Loaded program l = Programmed program l.pool l.ends l.bytes l.entries

-- the tasks of an image, whatever it holds
loads_keep : {program : List ℕ} (n : ℕ) (image : List ℕ) (place : ℕ) (l : Loading) → Loaded program l → Loaded program (load_records n image place l)
unfolding load_records record_placed load_record
loads_keep zero image place l p = p
loads_keep (suc n) image place l p =
    loads_keep n image _ _ (interned_keeps l.pool l.ends l.bytes l.entries (instructions_of image (read_record image place (next_reference l.entries))) p)

-- ---- creation

-- a machine at the start of the program, or none
data Makes (program : List ℕ) : Made → Type 0 where
  makes : {machine : Machine} {table : List Task} {pool ends : List ℕ} → may_continue machine.phase ≡ false → Main program machine.frames machine.pool machine.entries pool ends
      → (current machine.frames).place ≡ 0 → machine.loops.count ≡ 0 → Makes program (made (Ok machine) table pool ends)
  makes_none : {refusal : Refusal} {table : List Task} {pool ends : List ℕ} → Makes program (made (Err refusal) table pool ends)

module _ (table : List Task) (pool ends image program : List ℕ) (lent : length ends ≡ 1024) where
  abbrev entered : Pooled
  entered = interned pool ends 0 0 program

  -- the tasks are loaded behind the program
  loaded_makes : (bytes next_id s_len : ℕ) (l : Loading) → Loaded program l → Makes program (loaded_from (new_machine bytes 1 next_id s_len) l)
  unfolding may_continue current last_two
  loaded_makes bytes next_id s_len l p =
      makes refl (record { one_frame = refl; in_main = refl; ends_lent = p.lent; pooled = p.pooled; some_entries = p.some_entries; program = p.first }) refl refl

  with_room : (next_id count s_len : ℕ) → has_room (length pool) 0 0 (length program) ≡ true → Makes program (create_as table image (interned_program next_id count s_len entered))
  unfolding create_ready with_program
  with_room next_id count s_len held =
      let j = joins_one pool ends 0 0 program lent (none_pooled ends) held in
      let first : Programmed program entered.pool entered.ends (0 + length program) 1 = record { lent = j.still_lent; pooled = j.still_pooled; some_entries = omega arith; first = j.new } in
      rw j.answered
      (loaded_makes (0 + length program) next_id s_len _ (loads_keep count image 14 (loading (replicate (length table) blank) entered.pool entered.ends (in_use (0 + length program) 1)) first))

  without_room : (next_id count s_len : ℕ) → has_room (length pool) 0 0 (length program) ≡ false → Makes program (create_as table image (interned_program next_id count s_len entered))
  unfolding create_ready with_program
  without_room next_id count s_len failed = rw (when_full pool ends 0 0 program failed) makes_none

  by_tests : (result : Result Fit Refusal) → Makes program (create_as table image (prepare_fit pool ends program result))
  unfolding create_ready prepare_fit
  by_tests (Ok fit) = on_bool (has_room (length pool) 0 0 (length program)) (with_room fit.next_id.0 fit.count fit.s_len) (without_room fit.next_id.0 fit.count fit.s_len)
  by_tests (Err refusal) = makes_none

  creates : Makes program (create table pool ends image program)
  unfolding create_by_parts prepare
  creates = subst (Makes program) (create_is table pool ends image program) (by_tests _)

-- the machine that was made
made_ready : (program : List ℕ) (kinds : List Kind) (labelled : Labelled program kinds) (m : Made) (machine : Machine) (stack memory save : List ℕ) → length stack ≡ 1000 → Makes program m → m.answer ≡ Ok machine
    → Ready program kinds labelled (new_world machine m stack memory save)
made_ready program kinds labelled m machine stack memory save long (makes {machine = other} {table = table} {pool = pool} {ends = ends} still main at_zero closed) e =
    let same : other ≡ machine = cc in
    subst (λ (x : Machine). Ready program kinds labelled (world x table stack memory pool ends save)) same
    (rests still (record { lent = long; main = main; at_zero = at_zero; closed = closed }))
made_ready program kinds labelled m machine stack memory save long makes_none e = absurd (let z : ◌≡◌ {A = ℕ} 0 1 = cc in omega arith)

pub created_ready : (program : List ℕ) (kinds : List Kind) (labelled : Labelled program kinds) (table : List Task) (pool ends image : List ℕ) (machine : Machine) (stack memory save : List ℕ) → length ends ≡ 1024 → length stack ≡ 1000
    → (create table pool ends image program).answer ≡ Ok machine → Ready program kinds labelled (new_world machine (create table pool ends image program) stack memory save)
created_ready program kinds labelled table pool ends image machine stack memory save lent long e =
    made_ready program kinds labelled (create table pool ends image program) machine stack memory save long (creates table pool ends image program lent) e
