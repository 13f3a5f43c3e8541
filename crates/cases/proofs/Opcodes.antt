-- Each opcode on small programs, as one table: what the machine's run of them leaves, computed.
use Prim.Native.Nat.{ℕ}
use mathlib.Core.Bool.{true, false}
use mathlib.Core.List.{List, [], ◌∷◌, ◌++◌}
use mathlib.Core.Path.{◌≡◌, refl}
use lib.ListN.{replicate, take, get_or}
use Rattle.errors.specs.declared.Refusal.TheVariants.{UnexpectedEOB, StackUnderflow, StackOverflow, TypeMismatch, InvalidType, MSliceParamOverflow, MSliceOutOfBounds, InvalidTaskField, TitleTooLong}
use Rattle.bytecode.specs.Opcodes.{PUSH_U32, PUSH_STATE, PUSH_CALLDATA, PUSH_TASK_FIELD, PUSH_MAX_STATES, T_CREATE, T_GET_FIELD, T_SET_FIELD, S_LOAD, S_LEN, DO, LOOP, LOOP_INDEX, DROP, DUP, SWAP, EQ, NEQ, LT, GT, JUMP_IF_FALSE, M_STI, M_ST, M_MUTA, MULI, MUL}
use Rattle.inlinevec.specs.declared.Loop.{Loop}
use Rattle.storage.specs.declared.Task.{Task}
use Rattle.storage.specs.Tasks.{blank}
use Rattle.values.specs.Values.{to_u32_val, to_calldata_val, to_bool_val, to_vec_val}
use Rattle.machine.specs.declared.Outcome.{Outcome}
use Rattle.machine.specs.declared.Outcome.TheVariants.{Done, Refused}
use Rattle.machine.specs.Machines.{with_used}
use Rattle.machine.specs.World.{World, with_machine, with_memory}
use Rattle.machine.specs.Run.{run}
use Rattle.machine.specs.Creation.{new_machine}
use Rattle.cases.specs.Cases.{A, Field_3, Retitle, Call, End_call, Returning, Delete, fresh_world, raised, run_end}
use Rattle.bytecode.specs.Operands as bytecode-operands
use Rattle.inlinevec.specs.Stacks as inlinevec-stacks
use Rattle.values.specs.Values as values-values
use Rattle.memory.specs.Allocation as memory-allocation
use Rattle.memory.specs.Change as memory-change
use Rattle.memory.specs.Reads as memory-reads
use Rattle.slices.specs.Same as slices-same
use Rattle.slices.specs.Numbers as slices-numbers
use Rattle.pools.specs.Pool as pools-pool
use Rattle.storage.specs.Tasks as storage-tasks
use Rattle.storage.specs.Storage as storage-storage
use Rattle.machine.specs.Machines as machine-machines
use Rattle.machine.specs.Titles as machine-titles
use Rattle.machine.specs.World as machine-world
use Rattle.machine.specs.Words as machine-words
use Rattle.machine.specs.Opcodes as machine-opcodes
use Rattle.machine.specs.Step as machine-step
use Rattle.machine.specs.Run as machine-run
use Rattle.std.specs.Prelude.{Ok}

-- ---- programs

-- a number on the stack
abbrev number : ℕ → List ℕ
number byte = PUSH_STATE ∷ byte ∷ []

-- 5, and 3 on top of it
abbrev Two : List ℕ
Two = number 5 ++ number 3

-- TRUE and FALSE
abbrev True : List ℕ
True = number 1 ++ number 1 ++ (EQ ∷ [])

abbrev False : List ℕ
False = number 1 ++ number 2 ++ (EQ ∷ [])

-- four bytes of numbers from place 0 on: a vector that reads as the number 0
abbrev Numbers : List ℕ
Numbers = M_STI ∷ 0 ∷ 4 ∷ 6 ∷ 0 ∷ []

-- behind one of these: to the end over a 7, or on at the 7
abbrev Jump : List ℕ
Jump = JUMP_IF_FALSE ∷ 0 ∷ 0 ∷ 0 ∷ 12 ∷ number 7

-- the number 258
abbrev Wide : List ℕ
Wide = PUSH_U32 ∷ 0 ∷ 0 ∷ 1 ∷ 2 ∷ []

-- a loop whose body pushes its index, from an index up to a limit
abbrev counting : ℕ → ℕ → List ℕ
counting limit index = number limit ++ number index ++ (DO ∷ LOOP_INDEX ∷ LOOP ∷ [])

-- the text "ab"
abbrev Text : List ℕ
Text = M_STI ∷ 0 ∷ 2 ∷ 4 ∷ 1 ∷ 0x61 ∷ 0x62 ∷ []

-- its byte 1 becomes 0
abbrev Changed : List ℕ
Changed = Text ++ number 1 ++ number 0 ++ (M_MUTA ∷ [])

-- a text of so many zeros
abbrev zeros : ℕ → List ℕ
zeros size = number size ++ (M_ST ∷ 4 ∷ [])

-- a task of two states and no instructions, its title being on top
abbrev Create : List ℕ
Create = PUSH_MAX_STATES ∷ 2 ∷ PUSH_CALLDATA ∷ 0 ∷ 0 ∷ T_CREATE ∷ []

-- a field of task 0 read, or set to the value on top
abbrev read : ℕ → List ℕ
read field = number 0 ++ (PUSH_TASK_FIELD ∷ field ∷ T_GET_FIELD ∷ [])

abbrev set_to : ℕ → List ℕ
set_to field = number 0 ++ (PUSH_TASK_FIELD ∷ field ∷ T_SET_FIELD ∷ [])

-- ---- what they leave

-- the values, bottom first, and the memory in use
abbrev values_in : World → List ℕ
values_in w = take w.machine.height w.stack

abbrev values : List ℕ → List ℕ
values program = values_in (run_end program).world

abbrev memory_in : World → List ℕ
memory_in w = take w.machine.memory w.memory

abbrev memory : List ℕ → List ℕ
memory program = memory_in (run_end program).world

-- the world after so many instructions, the place in main and the open loop then
abbrev stepped : ℕ → List ℕ → World
stepped count program = (run count (fresh_world program)).world

abbrev place : ℕ → List ℕ → ℕ
place count program = (stepped count program).machine.frames.first.place

abbrev opened : ℕ → List ℕ → Loop
opened count program = (stepped count program).machine.loops.first

-- the record of a slot
abbrev task : ℕ → List ℕ → Task
task slot program = get_or (run_end program).world.table slot blank

-- how the next instruction ends after so many, with so many bytes of memory in use
abbrev with_less_memory : ℕ → ℕ → List ℕ → Outcome
with_less_memory used count program = (run 1 (with_machine (stepped count program) (with_used (stepped count program).machine used))).outcome

-- a machine that is lent 256 bytes of memory
abbrev roomy : List ℕ → World
roomy program = with_memory (fresh_world program) (replicate 256 0) 0

-- the table; PUSH_CALLDATA stands in Calls, S_SAVE, END_CALL in a task, and titles read and set in Table
pub record Opcodes : Type 0 where
  -- PUSH_U32 pushes its operand, whose highest byte comes first
  pub push_u32 : values Wide ≡ to_u32_val 258 ∷ []
  -- and goes on behind it
  pub push_u32_place : place 1 Wide ≡ 5
  -- PUSH_STATE, PUSH_TASK_FIELD and PUSH_MAX_STATES push a byte
  pub push_byte : values (PUSH_STATE ∷ 1 ∷ PUSH_TASK_FIELD ∷ 2 ∷ PUSH_MAX_STATES ∷ 4 ∷ []) ≡ to_u32_val 1 ∷ to_u32_val 2 ∷ to_u32_val 4 ∷ []
  -- MUL
  pub mul : values (Two ++ (MUL ∷ [])) ≡ to_u32_val 15 ∷ []
  -- MULI: 6 times its operand, 3
  pub muli : values (number 6 ++ (MULI ∷ 0 ∷ 0 ∷ 0 ∷ 3 ∷ [])) ≡ to_u32_val 18 ∷ []
  -- LT: 5 is not below 3, the right value being on top
  pub lt : values (Two ++ (LT ∷ [])) ≡ to_bool_val false ∷ []
  -- GT: it is above
  pub gt : values (Two ++ (GT ∷ [])) ≡ to_bool_val true ∷ []
  -- T_CREATE: the reference is on top, the count of states below it; here the first task has entry 1 and the second entry 2
  pub create_reference : (task 1 (A ++ A)).instructions_ref.0 ≡ 2
  -- and 1 state
  pub create_states : (task 1 (A ++ A)).state.len ≡ 1
  -- a title that reaches past the memory in use is 14
  pub create_outside : with_less_memory 1 3 (Text ++ Create) ≡ Refused (MSliceOutOfBounds 0 2)
  -- T_GET_FIELD: the state
  pub get_state : values (A ++ read 1) ≡ to_u32_val 0 ∷ []
  -- the instructions
  pub get_instructions : values (A ++ read 2) ≡ to_calldata_val 1 ∷ []
  -- field 3 is 10 of a living task, too
  pub get_field_3 : (run_end (A ++ Field_3)).outcome ≡ Refused (InvalidTaskField 3)
  -- a title of 128 bytes comes back as long as it is
  pub get_title_of_128 : to_vec_val 128 128 4 ≡ Ok (get_or (run 100 (roomy (zeros 128 ++ Create ++ read 0))).world.stack 0 0)
  -- T_SET_FIELD: a state below the count
  pub set_state : (task 0 (Text ++ Create ++ number 1 ++ set_to 1)).state.state ≡ 1
  -- instructions, which are not tested
  pub set_instructions : (task 0 (A ++ number 9 ++ set_to 2)).instructions_ref.0 ≡ 9
  -- a title of 128 bytes stands
  pub set_title_of_128 : (run 100 (roomy (A ++ zeros 128 ++ set_to 0))).outcome ≡ Done
  -- one of 129 is 21
  pub set_title_of_129 : (run 100 (roomy (A ++ zeros 129 ++ set_to 0))).outcome ≡ Refused TitleTooLong
  -- one that reaches past the memory in use is 14 with its offset and size
  pub set_title_outside : with_less_memory 1 7 (A ++ Retitle) ≡ Refused (MSliceOutOfBounds 1 1)
  -- T_DELETE pops the id
  pub delete_values : values (A ++ Delete) ≡ []
  -- goes on behind it
  pub delete_place : place 6 (A ++ Delete) ≡ 15
  -- and clears the slot
  pub delete_living : (task 0 (A ++ Delete)).living ≡ false
  -- S_LEN pushes the count, and not the next id
  pub s_len : values_in (run 1 (with_machine (fresh_world (S_LEN ∷ [])) (new_machine 1 1 2 1))).world ≡ to_u32_val 1 ∷ []
  -- S_LOAD, and a byte without an opcode, do nothing
  pub nothing : values (S_LOAD ∷ 0xff ∷ number 7) ≡ to_u32_val 7 ∷ []
  -- DO: the index is on top, the limit below it, and the loop begins behind it
  pub do_opens : opened 3 (counting 4 1) ≡ record { place = 5; index = 1; limit = 4 }
  -- LOOP counts the index
  pub loop_counts : (opened 5 (counting 4 1)).index ≡ 2
  -- and goes back exactly if index + 1 is below the limit: LOOP_INDEX pushes the index of each round
  pub loop_index : values (counting 4 2) ≡ to_u32_val 2 ∷ to_u32_val 3 ∷ []
  -- the first round comes before the limit is looked at
  pub loop_once : values (counting 0 5) ≡ to_u32_val 5 ∷ []
  -- behind the last one no loop is open
  pub loop_closed : (run_end (counting 4 2)).world.machine.loops.count ≡ 0
  -- LOOP_INDEX goes on behind it
  pub loop_index_place : place 4 (counting 4 1) ≡ 6
  -- CALL enters a task's instructions
  pub call_enters : (stepped 6 (Returning ++ Call)).machine.frames.count ≡ 2
  -- END_CALL in main does not leave it
  pub end_call_in_main : (run_end End_call).world.machine.frames.count ≡ 1
  -- DROP takes a value off
  pub drops : values (Two ++ (DROP ∷ [])) ≡ to_u32_val 5 ∷ []
  -- and goes on behind it
  pub drop_place : place 3 (Two ++ (DROP ∷ [])) ≡ 5
  -- without one it is 3
  pub drop_empty : (run_end (DROP ∷ [])).outcome ≡ Refused StackUnderflow
  -- DUP pushes the value on top
  pub dup : values (number 6 ++ (DUP ∷ [])) ≡ to_u32_val 6 ∷ to_u32_val 6 ∷ []
  -- and goes on behind it
  pub dup_place : place 2 (number 6 ++ (DUP ∷ [])) ≡ 3
  -- SWAP
  pub swap : values (Two ++ (SWAP ∷ [])) ≡ to_u32_val 3 ∷ to_u32_val 5 ∷ []
  -- EQ
  pub eq : values (Two ++ (EQ ∷ [])) ≡ to_bool_val false ∷ []
  -- NEQ
  pub neq : values (Two ++ (NEQ ∷ [])) ≡ to_bool_val true ∷ []
  -- a number and a vector are 6, whichever is on the left
  pub eq_vector_right : (run_end (number 0 ++ Numbers ++ (EQ ∷ []))).outcome ≡ Refused TypeMismatch
  pub eq_vector_left : (run_end (Numbers ++ number 0 ++ (EQ ∷ []))).outcome ≡ Refused TypeMismatch
  pub neq_vector_right : (run_end (number 0 ++ Numbers ++ (NEQ ∷ []))).outcome ≡ Refused TypeMismatch
  pub neq_vector_left : (run_end (Numbers ++ number 0 ++ (NEQ ∷ []))).outcome ≡ Refused TypeMismatch
  -- two bools are compared
  pub eq_true_false : values (True ++ False ++ (EQ ∷ [])) ≡ to_bool_val false ∷ []
  pub eq_false_true : values (False ++ True ++ (EQ ∷ [])) ≡ to_bool_val false ∷ []
  pub eq_true_true : values (True ++ True ++ (EQ ∷ [])) ≡ to_bool_val true ∷ []
  pub neq_true_false : values (True ++ False ++ (NEQ ∷ [])) ≡ to_bool_val true ∷ []
  pub neq_false_true : values (False ++ True ++ (NEQ ∷ [])) ≡ to_bool_val true ∷ []
  pub neq_false_false : values (False ++ False ++ (NEQ ∷ [])) ≡ to_bool_val false ∷ []
  -- two vectors are compared by their bytes, and of different tags they are 6
  pub eq_texts : values (Text ++ Text ++ (EQ ∷ [])) ≡ to_bool_val true ∷ []
  pub eq_text_numbers : (run_end (Text ++ Numbers ++ (EQ ∷ []))).outcome ≡ Refused TypeMismatch
  -- JUMP_IF_FALSE jumps on FALSE, which it pops
  pub jump : values (False ++ Jump) ≡ []
  -- and not on TRUE
  pub no_jump : values (True ++ Jump) ≡ to_u32_val 7 ∷ []
  -- on FALSE it needs its operand
  pub jump_cut : (run_end (False ++ (JUMP_IF_FALSE ∷ []))).outcome ≡ Refused UnexpectedEOB
  -- M_STI: the memory in use has the new vector
  pub m_sti : memory Text ≡ 0x61 ∷ 0x62 ∷ []
  -- on a full stack it is 4
  pub m_sti_full : (run 1 (raised 1000 Text)).outcome ≡ Refused StackOverflow
  -- behind 5 for a tag that no vector has
  pub m_sti_tag : (run 1 (raised 1000 (M_STI ∷ 0 ∷ 2 ∷ 5 ∷ 0 ∷ []))).outcome ≡ Refused InvalidType
  -- M_ST: zeros
  pub m_st : memory (zeros 2) ≡ 0 ∷ 0 ∷ []
  -- a size above 65,535 is 13
  pub m_st_large : (run_end (PUSH_U32 ∷ 0 ∷ 1 ∷ 0 ∷ 0 ∷ M_ST ∷ 4 ∷ [])).outcome ≡ Refused MSliceParamOverflow
  -- M_MUTA: the value is on top, the index below it
  pub m_muta : memory Changed ≡ 0x61 ∷ 0x00 ∷ []
  -- a vector that reaches past the memory in use is 14
  pub m_muta_outside : with_less_memory 1 3 Changed ≡ Refused (MSliceOutOfBounds 0 2)

pub opcodes : Opcodes
unfolding bytecode-operands.big_endian bytecode-operands.operand inlinevec-stacks.if_room inlinevec-stacks.if_some inlinevec-stacks.pop inlinevec-stacks.last inlinevec-stacks.push_two inlinevec-stacks.last_two inlinevec-stacks.pop_two inlinevec-stacks.change_two inlinevec-stacks.push_onto inlinevec-stacks.pop_off inlinevec-stacks.last_on values-values.make_scalar_tagged values-values.make_vec_tagged values-values.to_vec_val values-values.to_bool_val values-values.is_qnan values-values.is_scalar values-values.is_vec values-values.raw_tag values-values.tag_of values-values.is_u32_val values-values.to_u32 values-values.fat_pointer values-values.to_fat_pointer values-values.bool_not values-values.product values-values.mul_checked values-values.mul_checked_i values-values.is_bool values-values.one_vector values-values.of_one_kind values-values.alike values-values.value_eq values-values.value_cmp memory-allocation.offset_aligned memory-allocation.is_element_tag memory-allocation.vector memory-allocation.filling memory-allocation.vector_stored memory-allocation.alloc memory-change.element_size_bytes memory-change.inside memory-change.changed memory-change.mut_vec slices-numbers.little_endian pools-pool.end_of pools-pool.start_of pools-pool.bounds pools-pool.entry_of pools-pool.has_room pools-pool.interned pools-pool.part_in_use storage-tasks.blank storage-tasks.default_state storage-tasks.with_state storage-tasks.title_of storage-tasks.new_task storage-storage.slot_of storage-storage.find storage-storage.room storage-storage.len_after machine-machines.current machine-machines.with_current machine-machines.code_of machine-machines.op_at machine-machines.placed machine-titles.title_bytes machine-world.at_end machine-words.test machine-words.operand_found machine-words.popped machine-words.looked_at machine-words.push machine-words.calculated machine-words.pointed machine-words.bytes_of machine-words.allocated machine-words.store machine-words.element_changed machine-words.loop_pushed machine-words.loop_popped machine-words.loop_looked_at machine-words.frame_pushed machine-words.bounds_found machine-words.interned machine-words.found machine-words.first_state machine-words.has_state machine-words.with_room machine-opcodes.push_u32 machine-opcodes.push_byte machine-opcodes.push_calldata machine-opcodes.mul machine-opcodes.muli machine-opcodes.compare machine-opcodes.t_create machine-opcodes.get_field machine-opcodes.t_get_field machine-opcodes.set_field machine-opcodes.t_set_field machine-opcodes.t_delete machine-opcodes.s_len machine-opcodes.«do» machine-opcodes.loop machine-opcodes.loop_index machine-opcodes.enter machine-opcodes.call_task machine-opcodes.end_call machine-opcodes.jump_if_false machine-opcodes.drops machine-opcodes.dup machine-opcodes.swap machine-opcodes.equal machine-opcodes.eq machine-opcodes.neq machine-opcodes.m_sti machine-opcodes.m_st machine-opcodes.m_muta machine-step.execute machine-step.step machine-run.follow machine-run.run memory-reads.is_m_slice_eq slices-same.same
opcodes = record {
  push_u32 = refl;
  push_u32_place = refl;
  push_byte = refl;
  mul = refl;
  muli = refl;
  lt = refl;
  gt = refl;
  create_reference = refl;
  create_states = refl;
  create_outside = refl;
  get_state = refl;
  get_instructions = refl;
  get_field_3 = refl;
  get_title_of_128 = refl;
  set_state = refl;
  set_instructions = refl;
  set_title_of_128 = refl;
  set_title_of_129 = refl;
  set_title_outside = refl;
  delete_values = refl;
  delete_place = refl;
  delete_living = refl;
  s_len = refl;
  nothing = refl;
  do_opens = refl;
  loop_counts = refl;
  loop_index = refl;
  loop_once = refl;
  loop_closed = refl;
  loop_index_place = refl;
  call_enters = refl;
  end_call_in_main = refl;
  drops = refl;
  drop_place = refl;
  drop_empty = refl;
  dup = refl;
  dup_place = refl;
  swap = refl;
  eq = refl;
  neq = refl;
  eq_vector_right = refl;
  eq_vector_left = refl;
  neq_vector_right = refl;
  neq_vector_left = refl;
  eq_true_false = refl;
  eq_false_true = refl;
  eq_true_true = refl;
  neq_true_false = refl;
  neq_false_true = refl;
  neq_false_false = refl;
  eq_texts = refl;
  eq_text_numbers = refl;
  jump = refl;
  no_jump = refl;
  jump_cut = refl;
  m_sti = refl;
  m_sti_full = refl;
  m_sti_tag = refl;
  m_st = refl;
  m_st_large = refl;
  m_muta = refl;
  m_muta_outside = refl;
}
