-- The cases C1 to C12 (docs/REFERENCE.md, 'Cases') as one table, and beside it small programs for single instructions.
use Rattle.std.specs.Prelude.{ℕ, false, List, [], ◌∷◌, ◌++◌, ◌≡◌, length, replicate, take, get_or, Ok}
use Rattle.errors.specs.declared.Refusal.TheVariants.{UnexpectedEOB, TypeMismatch, MultiplicationOverflowed, MaxStatesError, TaskNotFound, InvalidTaskField, InvalidStatus, MSliceOutOfBounds, SaveBufferTooShort}
use Rattle.machine.specs.declared.Outcome.TheVariants.{Done, Paused, Refused}
use Rattle.machine.specs.declared.Phase.TheVariants.{New}
use Rattle.storage.specs.Tasks.{blank}
use Rattle.values.specs.Values.{to_u32_val, to_vec_val, to_bool_val}
use Rattle.image.specs.Table.{living_tasks, image_of_tasks}
use Rattle.roundtrips.specs.Images.{I1, Ab}
use Rattle.machine.specs.World.{World, world, moved}
use Rattle.machine.specs.Run.{End, run}
use Rattle.machine.specs.Calls.{start}
use Rattle.machine.specs.Creation.{new_machine, Made, create}
use Rattle.machine.specs.Reads.{host_save}
use Rattle.machine.specs.History.{new_world}

-- 01 00000000 01 00000005 0e 01 00000063 0f
abbrev pub C1 : List ℕ
C1 = 0x01 ∷ 0x00 ∷ 0x00 ∷ 0x00 ∷ 0x00 ∷ 0x01 ∷ 0x00 ∷ 0x00 ∷ 0x00 ∷ 0x05 ∷ 0x0e ∷ 0x01 ∷ 0x00 ∷ 0x00 ∷ 0x00 ∷ 0x63 ∷ 0x0f ∷ []

-- 1b 0001 04 01 61 13 01 00000200 1b 0006 06 00 16
abbrev C4 : List ℕ
C4 = 0x1b ∷ 0x00 ∷ 0x01 ∷ 0x04 ∷ 0x01 ∷ 0x61 ∷ 0x13 ∷ 0x01 ∷ 0x00 ∷ 0x00 ∷ 0x02 ∷ 0x00 ∷ 0x1b ∷ 0x00 ∷ 0x06 ∷ 0x06 ∷ 0x00 ∷ 0x16 ∷ []

-- 1b 0001 04 01 61 1b 0006 06 00 01 00000000 01 00000007 1d
abbrev C5_0 : List ℕ
C5_0 = 0x1b ∷ 0x00 ∷ 0x01 ∷ 0x04 ∷ 0x01 ∷ 0x61 ∷ 0x1b ∷ 0x00 ∷ 0x06 ∷ 0x06 ∷ 0x00 ∷ 0x01 ∷ 0x00 ∷ 0x00 ∷ 0x00 ∷ 0x00 ∷ 0x01 ∷ 0x00 ∷ 0x00 ∷ 0x00 ∷ 0x07 ∷ 0x1d ∷ []

-- 1b 0001 04 01 61 1b 0006 06 00 01 00000001 01 00000007 1d
abbrev C5_1 : List ℕ
C5_1 = 0x1b ∷ 0x00 ∷ 0x01 ∷ 0x04 ∷ 0x01 ∷ 0x61 ∷ 0x1b ∷ 0x00 ∷ 0x06 ∷ 0x06 ∷ 0x00 ∷ 0x01 ∷ 0x00 ∷ 0x00 ∷ 0x00 ∷ 0x01 ∷ 0x01 ∷ 0x00 ∷ 0x00 ∷ 0x00 ∷ 0x07 ∷ 0x1d ∷ []

-- 1b 0001 04 01 61 1b 0006 06 00 01 40000000 01 00000007 1d
abbrev C6 : List ℕ
C6 = 0x1b ∷ 0x00 ∷ 0x01 ∷ 0x04 ∷ 0x01 ∷ 0x61 ∷ 0x1b ∷ 0x00 ∷ 0x06 ∷ 0x06 ∷ 0x00 ∷ 0x01 ∷ 0x40 ∷ 0x00 ∷ 0x00 ∷ 0x00 ∷ 0x01 ∷ 0x00 ∷ 0x00 ∷ 0x00 ∷ 0x07 ∷ 0x1d ∷ []

-- 1b 0000 04 01 01 000000ff 04 0000 07
abbrev C7_255 : List ℕ
C7_255 = 0x1b ∷ 0x00 ∷ 0x00 ∷ 0x04 ∷ 0x01 ∷ 0x01 ∷ 0x00 ∷ 0x00 ∷ 0x00 ∷ 0xff ∷ 0x04 ∷ 0x00 ∷ 0x00 ∷ 0x07 ∷ []

-- 1b 0000 04 01 01 00000100 04 0000 07
abbrev C7_256 : List ℕ
C7_256 = 0x1b ∷ 0x00 ∷ 0x00 ∷ 0x04 ∷ 0x01 ∷ 0x01 ∷ 0x00 ∷ 0x00 ∷ 0x01 ∷ 0x00 ∷ 0x04 ∷ 0x00 ∷ 0x00 ∷ 0x07 ∷ []

-- 1b 0000 04 01 01 00000101 04 0000 07
abbrev C8 : List ℕ
C8 = 0x1b ∷ 0x00 ∷ 0x00 ∷ 0x04 ∷ 0x01 ∷ 0x01 ∷ 0x00 ∷ 0x00 ∷ 0x01 ∷ 0x01 ∷ 0x04 ∷ 0x00 ∷ 0x00 ∷ 0x07 ∷ []

-- 01 0000ffff 1e 00010001
abbrev C9_stands : List ℕ
C9_stands = 0x01 ∷ 0x00 ∷ 0x00 ∷ 0xff ∷ 0xff ∷ 0x1e ∷ 0x00 ∷ 0x01 ∷ 0x00 ∷ 0x01 ∷ []

-- 01 00010000 1e 00010000
abbrev C9_7 : List ℕ
C9_7 = 0x01 ∷ 0x00 ∷ 0x01 ∷ 0x00 ∷ 0x00 ∷ 0x1e ∷ 0x00 ∷ 0x01 ∷ 0x00 ∷ 0x00 ∷ []

-- 01 00
abbrev C10 : List ℕ
C10 = 0x01 ∷ 0x00 ∷ []

-- 01 00000001 01 00000001 16 01 00000001 01 00000002 16 16
abbrev C11 : List ℕ
C11 = 0x01 ∷ 0x00 ∷ 0x00 ∷ 0x00 ∷ 0x01 ∷ 0x01 ∷ 0x00 ∷ 0x00 ∷ 0x00 ∷ 0x01 ∷ 0x16 ∷ 0x01 ∷ 0x00 ∷ 0x00 ∷ 0x00 ∷ 0x01 ∷ 0x01 ∷ 0x00 ∷ 0x00 ∷ 0x00 ∷ 0x02 ∷ 0x16 ∷ 0x16 ∷ []

-- ---- programs for single instructions

-- 06 00 04 0000 07
abbrev No_title : List ℕ
No_title = 0x06 ∷ 0x00 ∷ 0x04 ∷ 0x00 ∷ 0x00 ∷ 0x07 ∷ []

-- 1b 0001 04 01 41 03 01 04 0000 07: task 0, "A", with 1 state and no instructions
abbrev pub A : List ℕ
A = 0x1b ∷ 0x00 ∷ 0x01 ∷ 0x04 ∷ 0x01 ∷ 0x41 ∷ 0x03 ∷ 0x01 ∷ 0x04 ∷ 0x00 ∷ 0x00 ∷ 0x07 ∷ []

-- 03 00 05 03 08
abbrev pub Field_3 : List ℕ
Field_3 = 0x03 ∷ 0x00 ∷ 0x05 ∷ 0x03 ∷ 0x08 ∷ []

-- 03 00 05 00 08
abbrev Title : List ℕ
Title = 0x03 ∷ 0x00 ∷ 0x05 ∷ 0x00 ∷ 0x08 ∷ []

-- 03 01 03 00 05 01 09
abbrev State_1 : List ℕ
State_1 = 0x03 ∷ 0x01 ∷ 0x03 ∷ 0x00 ∷ 0x05 ∷ 0x01 ∷ 0x09 ∷ []

-- 1b 0001 04 01 42 03 00 05 00 09
abbrev pub Retitle : List ℕ
Retitle = 0x1b ∷ 0x00 ∷ 0x01 ∷ 0x04 ∷ 0x01 ∷ 0x42 ∷ 0x03 ∷ 0x00 ∷ 0x05 ∷ 0x00 ∷ 0x09 ∷ []

-- 03 00 11
abbrev pub Call : List ℕ
Call = 0x03 ∷ 0x00 ∷ 0x11 ∷ []

-- 12 0d
abbrev pub End_call : List ℕ
End_call = 0x12 ∷ 0x0d ∷ []

-- 1b 0000 04 01 03 01 04 0001 12 07: task 0, whose instructions are END_CALL
abbrev pub Returning : List ℕ
Returning = 0x1b ∷ 0x00 ∷ 0x00 ∷ 0x04 ∷ 0x01 ∷ 0x03 ∷ 0x01 ∷ 0x04 ∷ 0x00 ∷ 0x01 ∷ 0x12 ∷ 0x07 ∷ []

-- 03 00 1a
abbrev Jump_cut : List ℕ
Jump_cut = 0x03 ∷ 0x00 ∷ 0x1a ∷ []

-- 0b
abbrev pub Save : List ℕ
Save = 0x0b ∷ []

-- 03 00 0a
abbrev pub Delete : List ℕ
Delete = 0x03 ∷ 0x00 ∷ 0x0a ∷ []

-- ---- their runs

-- a machine for a program and no tasks, lent 64 bytes of memory and a save buffer
abbrev pub lent : List ℕ → List ℕ → World
lent save program =
    world (record {
      phase = New;
      height = 0;
      loops = record { count = 0; first = record { place = 0; index = 0; limit = 0 }; second = record { place = 0; index = 0; limit = 0 } };
      frames = record { count = 1; first = record { entry = record { 0 = 0 }; place = 0 }; second = record { entry = record { 0 = 0 }; place = 0 } };
      memory = 0;
      pool = length program;
      entries = 1;
      next_id = record { 0 = 0 };
      count = 0;
      saved = 0;
    }) (replicate 256 blank) (replicate 1000 0) (replicate 64 0) (program ++ replicate 16 0) (length program ∷ replicate 1023 0) save

-- and one without a save buffer
abbrev pub fresh_world : List ℕ → World
fresh_world program = lent [] program

-- one whose stack has this height
abbrev pub raised : ℕ → List ℕ → World
raised height program = moved (fresh_world program) 0 height

-- the end of a run of one
abbrev pub run_end : List ℕ → End
run_end program = run 100 (fresh_world program)

-- image I1 and the program 0b, in a blank table
abbrev pub I1_made : Made
I1_made = create (replicate 256 blank) (replicate 16 0) (replicate 1024 0) I1 Save

-- the machine that is created, lent 64 bytes of memory and a save buffer
abbrev pub I1_world : World
I1_world = new_world (new_machine 1 2 1 1) I1_made (replicate 1000 0) (replicate 64 0) (replicate 31 9)

-- the table
pub record Cases : Type 0 where
  -- one value, 99, after five instructions
  pub c1 : ((run_end C1).outcome ≡ Done) × (((run_end C1).world.machine.height ≡ 1) × ((get_or (run_end C1).world.stack 0 0 ≡ to_u32_val 99) × ((run_end C1).left ≡ 95)))
  -- 99 boxed
  pub c2 : to_u32_val 99 ≡ 0x7FFC0000018C0006
  -- numbers at 4, size 6
  pub c3 : to_vec_val 4 6 6 ≡ Ok 0xFFFC000008000C06
  -- number 512 on the left of C3, which reads as 512, gives 6: the two values before EQ, which stay
  pub c4 : (take 2 (run 4 (fresh_world C4)).world.stack ≡ to_u32_val 512 ∷ 0xFFFC000008000C06 ∷ []) × (((run_end C4).world.machine.height ≡ 2) × ((run_end C4).outcome ≡ Refused TypeMismatch))
  -- M_MUTA on C3: index 0 works, and writes 7 in 4 bytes from 4 on; 1 gives 14
  pub c5 : ((run_end C5_0).outcome ≡ Done)
      × ((get_or (run_end C5_0).world.stack 1 0 ≡ 0xFFFC000008000C06)
      × ((take 10 (run_end C5_0).world.memory ≡ 0x61 ∷ 0 ∷ 0 ∷ 0 ∷ 0x07 ∷ 0 ∷ 0 ∷ 0 ∷ 0 ∷ 0 ∷ []) × ((run_end C5_1).outcome ≡ Refused (MSliceOutOfBounds 4 6))))
  -- index 1,073,741,824 gives 14
  pub c6 : (run_end C6).outcome ≡ Refused (MSliceOutOfBounds 0 6)
  -- 255 states stand, 256 gives 8
  pub c7 : ((run_end C7_255).outcome ≡ Done) × (((get_or (run_end C7_255).world.table 0 blank).state.len ≡ 255) × ((run_end C7_256).outcome ≡ Refused MaxStatesError))
  -- 257 makes 1 state
  pub c8 : ((run_end C8).outcome ≡ Done) × ((get_or (run_end C8).world.table 0 blank).state.len ≡ 1)
  -- 65,535 times 65,537 stands, 65,536 times 65,536 gives 7
  pub c9 : ((run_end C9_stands).outcome ≡ Done) × ((get_or (run_end C9_stands).world.stack 0 0 ≡ to_u32_val 4294967295) × ((run_end C9_7).outcome ≡ Refused MultiplicationOverflowed))
  -- code `01 00` gives 2
  pub c10 : (run_end C10).outcome ≡ Refused UnexpectedEOB
  -- TRUE EQ FALSE gives FALSE
  pub c11 : ((run_end C11).outcome ≡ Done) × (((run_end C11).world.machine.height ≡ 1) × (get_or (run_end C11).world.stack 0 0 ≡ to_bool_val false))
  -- image I1 loads: the machine that is created, its tasks, and the same bytes from the host's save and from S_SAVE
  pub c12 : (I1_made.answer ≡ Ok (new_machine 1 2 1 1))
      × ((image_of_tasks 1 (living_tasks I1_made.table) I1_made.pool I1_made.ends ≡ Ab) × (((host_save I1_world).save ≡ I1 ++ (9 ∷ [])) × ((start 1 I1_world).save ≡ I1 ++ (9 ∷ []))))

-- single instructions
pub record Instructions : Type 0 where
  -- at the code's end a run is done, without fuel too; before it, it is paused
  pub at_the_end : ((run 5 (fresh_world C1)).outcome ≡ Done) × ((run 4 (fresh_world C1)).outcome ≡ Paused)
  -- T_CREATE with 0 states gives 8 before it looks for a title: there is none
  pub no_title : (run_end No_title).outcome ≡ Refused MaxStatesError
  -- T_GET_FIELD tests the field, 10, before the id, 9
  pub get_field : ((run_end Field_3).outcome ≡ Refused (InvalidTaskField 3)) × ((run_end Title).outcome ≡ Refused (TaskNotFound 0))
  -- and reads a title as a new text behind the memory in use
  pub get_title : to_vec_val 1 1 4 ≡ Ok (get_or (run_end (A ++ Title)).world.stack 0 0)
  -- T_SET_FIELD: a state not below the count is 11
  pub set_state : (run_end (A ++ State_1)).outcome ≡ Refused (InvalidStatus 1)
  -- a title replaces the old one
  pub set_title : get_or (get_or (run_end (A ++ Retitle)).world.table 0 blank).title 0 0 ≡ 0x42
  -- CALL of empty instructions pops the id and does nothing
  pub call_empty : ((run_end (A ++ Call)).outcome ≡ Done) × (((run_end (A ++ Call)).world.machine.height ≡ 0) × ((run_end (A ++ Call)).world.machine.frames.count ≡ 1))
  -- END_CALL in main does nothing: S_LEN comes behind it
  pub end_call_in_main : ((run_end End_call).world.machine.height ≡ 1) × ((run_end End_call).left ≡ 98)
  -- in a task it returns to the instruction behind CALL
  pub end_call_in_a_task : ((run_end (Returning ++ Call ++ End_call)).world.machine.frames.count ≡ 1) × (get_or (run_end (Returning ++ Call ++ End_call)).world.stack 0 0 ≡ to_u32_val 1)
  -- JUMP_IF_FALSE on another value than FALSE skips its operand, even past the end
  pub jump_cut : ((run_end Jump_cut).outcome ≡ Done) × ((run_end Jump_cut).left ≡ 98)
  -- ids are never used twice: S_LEN is 2 after a task was created, deleted and another created
  pub ids : ((run_end (A ++ Delete ++ A)).world.machine.next_id.0 ≡ 2) × ((run_end (A ++ Delete ++ A)).world.machine.count ≡ 2)
  -- S_SAVE writes the image from the save buffer's start; a buffer too short is 24
  pub save : (run 100 (lent (replicate 15 9) Save)).world.save ≡ 0x08 ∷ 0 ∷ 0 ∷ 0 ∷ 0x01 ∷ 0 ∷ 0 ∷ 0 ∷ 0 ∷ 0 ∷ 0 ∷ 0 ∷ 0 ∷ 0 ∷ 9 ∷ []
  -- all slots are saved, and not as many as there are tasks: here 0 is deleted and 1 lives
  pub save_behind_a_gap : take 29 (run 100 (lent (replicate 29 9) (A ++ A ++ Delete ++ Save))).world.save
      ≡ 0x08 ∷ 0 ∷ 0 ∷ 0 ∷ 0x01 ∷ 0 ∷ 0x02 ∷ 0 ∷ 0 ∷ 0 ∷ 0x01 ∷ 0 ∷ 0 ∷ 0 ∷
      0x09 ∷ 0 ∷ 0 ∷ 0 ∷ 0x02 ∷ 0 ∷ 0x01 ∷ 0 ∷ 0 ∷ 0 ∷ 0x01 ∷ 0 ∷ 0x01 ∷ 0 ∷ 0x41 ∷ []
  pub save_too_short : (run 100 (lent (replicate 13 9) Save)).outcome ≡ Refused SaveBufferTooShort
