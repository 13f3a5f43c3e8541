-- Programs, and what a run of each gives: every answer was taken from the Rust itself, run unchanged on the same bytes.
use Rattle.std.specs.Prelude.{ℕ, true, false, List, [], ◌∷◌, map, ◌≡◌}
use Rattle.values.specs.Values.{make_vec_tagged, to_u32_val, to_calldata_val, to_bool_val}
use Rattle.rust.specs.Errors.{VMError, TaskNotFound, InvalidInstructionsIndex, StackUnderflow, StackOverflow, MSliceParamOverflow, MSliceOutOfBounds, TypeMismatch, InvalidType, EmptyInstructions, MaxStatesError, InvalidStatus, InvalidTaskField, BytesToStringConversionError, AlignmentMismatch, MultiplicationOverflowed, SliceSizeMismatch, Out, ok, err, panic}
use Rattle.rust.specs.TaskTypes.{StorageData}
use Rattle.rust.specs.Storage.{save}
use Rattle.rust.specs.Vm.{VM}
use Rattle.rust.specs.Run.{init, Ran, returned, running, failed, panicked, run}
use Rattle.rust.specs.Unbox.{Return, U32, String, CallData, Truth, VecU32, Null, unbox_value}

-- what a run comes to, within 20 turns: its values top first, each read, or what is saved after it
pub data Answer : Type 0 where
  gives : List ℕ → Answer
  reads : List (Out Return) → Answer
  saves : Out StorageData → Answer
  fails : VMError → Answer
  panics : Answer
  goes_on : Answer

-- of a run that returned it is told from its values and its machine
unfoldable pub answer_by : (List ℕ → VM → Answer) → Ran → Answer
answer_by told (returned values after) = told values after
answer_by told (running after) = goes_on
answer_by told (failed error before) = fails error
answer_by told panicked = panics

-- where init makes a machine, what its first run comes to
unfoldable pub first_by : (List ℕ → VM → Answer) → Out VM → Answer
first_by told (ok vm) = answer_by told (run 20 vm)
first_by told (err error) = fails error
first_by told panic = panics

-- a run of a program over stored tasks
unfoldable pub run_over : (List ℕ → VM → Answer) → StorageData → List ℕ → Answer
run_over told stored program = first_by told (init program stored)

-- no tasks, and one task: id 1, "Ab", in state 2 of 3, whose instructions are 03 09 12; the next id is 3
abbrev pub no_tasks : StorageData
no_tasks = record { tasks = []; next_id = 0 }

abbrev pub one_stored : StorageData
one_stored = record { tasks = record { id = 1; title = 0x41 ∷ 0x62 ∷ []; state = record { len = 3; state = 2 }; instructions = 0x03 ∷ 0x09 ∷ 0x12 ∷ [] } ∷ []; next_id = 3 }

-- the values of a first run, without tasks and over the stored one
unfoldable pub first_run : List ℕ → Answer
first_run program = run_over (λ values after. gives values) no_tasks program

unfoldable pub loaded_run : List ℕ → Answer
loaded_run program = run_over (λ values after. gives values) one_stored program

-- those of a second run after it, and of a third
unfoldable pub second_run : List ℕ → Answer
second_run program = run_over (λ first after. answer_by (λ values after. gives values) (run 20 after)) no_tasks program

unfoldable pub third_run : List ℕ → Answer
third_run program = run_over (λ first after. answer_by (λ second after. answer_by (λ values after. gives values) (run 20 after)) (run 20 after)) no_tasks program

-- the values of a first run as unbox_value reads them, and other values so
unfoldable pub read_run : List ℕ → Answer
read_run program = run_over (λ values after. reads (map (unbox_value after) values)) no_tasks program

unfoldable pub unboxed : List ℕ → List ℕ → Answer
unboxed program values = run_over (λ first after. reads (map (unbox_value after) values)) no_tasks program

-- what is saved after a first run
unfoldable pub saved_run : List ℕ → Answer
saved_run program = run_over (λ values after. saves (save after.storage after.instructions_pool ok)) no_tasks program

-- every arm of run, and every kind of value
pub record Cases : Type 0 where
  -- a body runs once, also where the index is not below the limit: C1
  pub one_turn : first_run (0x01 ∷ 0x00 ∷ 0x00 ∷ 0x00 ∷ 0x00 ∷ 0x01 ∷ 0x00 ∷ 0x00 ∷ 0x00 ∷ 0x05 ∷ 0x0e ∷ 0x01 ∷ 0x00 ∷ 0x00 ∷ 0x00 ∷ 0x63 ∷ 0x0f ∷ []) ≡ gives (to_u32_val 99 ∷ [])
  -- and sees its index
  pub index_above_limit : first_run (0x01 ∷ 0x00 ∷ 0x00 ∷ 0x00 ∷ 0x00 ∷ 0x01 ∷ 0x00 ∷ 0x00 ∷ 0x00 ∷ 0x05 ∷ 0x0e ∷ 0x10 ∷ 0x0f ∷ []) ≡ gives (to_u32_val 5 ∷ [])
  -- an index of 2^32 - 1 does not wrap
  pub index_does_not_wrap : first_run (0x01 ∷ 0x00 ∷ 0x00 ∷ 0x00 ∷ 0x05 ∷ 0x01 ∷ 0xff ∷ 0xff ∷ 0xff ∷ 0xff ∷ 0x0e ∷ 0x10 ∷ 0x0f ∷ []) ≡ gives (to_u32_val 4294967295 ∷ [])
  -- number 0 equals the empty number vector
  pub number_equals_vector : first_run (0x01 ∷ 0x00 ∷ 0x00 ∷ 0x00 ∷ 0x00 ∷ 0x1b ∷ 0x00 ∷ 0x00 ∷ 0x06 ∷ 0x00 ∷ 0x16 ∷ []) ≡ gives (to_bool_val true ∷ [])
  -- the other way round it is no type
  pub vector_on_the_left : first_run (0x1b ∷ 0x00 ∷ 0x06 ∷ 0x06 ∷ 0x00 ∷ 0x01 ∷ 0x00 ∷ 0x00 ∷ 0x00 ∷ 0x00 ∷ 0x16 ∷ []) ≡ fails InvalidType
  -- and NEQ likewise
  pub number_unequal_to_vector : first_run (0x0d ∷ 0x1b ∷ 0x00 ∷ 0x00 ∷ 0x06 ∷ 0x00 ∷ 0x17 ∷ []) ≡ gives (to_bool_val false ∷ [])
  pub vector_unequal_to_number : first_run (0x1b ∷ 0x00 ∷ 0x00 ∷ 0x06 ∷ 0x00 ∷ 0x0d ∷ 0x17 ∷ []) ≡ fails InvalidType
  -- TRUE against FALSE is a mismatch
  pub true_and_false : first_run (0x0d ∷ 0x0d ∷ 0x16 ∷ 0x0d ∷ 0x0d ∷ 0x17 ∷ 0x16 ∷ []) ≡ fails TypeMismatch
  pub true_unequal_to_false : first_run (0x0d ∷ 0x0d ∷ 0x16 ∷ 0x0d ∷ 0x0d ∷ 0x17 ∷ 0x17 ∷ []) ≡ fails TypeMismatch
  -- a text against a number is a mismatch
  pub text_and_number : first_run (0x1b ∷ 0x00 ∷ 0x00 ∷ 0x04 ∷ 0x01 ∷ 0x01 ∷ 0x00 ∷ 0x00 ∷ 0x00 ∷ 0x00 ∷ 0x16 ∷ []) ≡ fails TypeMismatch
  -- entries are not merged: equal calldata is unequal
  pub equal_calldata : first_run (0x04 ∷ 0x00 ∷ 0x01 ∷ 0x12 ∷ 0x04 ∷ 0x00 ∷ 0x01 ∷ 0x12 ∷ 0x16 ∷ []) ≡ gives (to_bool_val false ∷ [])
  -- the count of states is tested before the title is popped
  pub states_before_title : first_run (0x01 ∷ 0x00 ∷ 0x00 ∷ 0x01 ∷ 0x00 ∷ 0x01 ∷ 0x00 ∷ 0x00 ∷ 0x00 ∷ 0x00 ∷ 0x07 ∷ []) ≡ fails MaxStatesError
  -- the field is tested before the id is popped
  pub field_before_id : first_run (0x01 ∷ 0xff ∷ 0xff ∷ 0xff ∷ 0xff ∷ 0x08 ∷ []) ≡ fails (InvalidTaskField 4294967295)
  -- MULI pops before it reads
  pub pop_before_operand : first_run (0x1e ∷ 0x00 ∷ []) ≡ fails StackUnderflow
  -- M_ST tests the size before it reads
  pub size_before_operand : first_run (0x01 ∷ 0x00 ∷ 0x01 ∷ 0x00 ∷ 0x00 ∷ 0x1c ∷ []) ≡ fails MSliceParamOverflow
  -- the index in the error wraps: C6
  pub wrapped_index : first_run (0x1b ∷ 0x00 ∷ 0x06 ∷ 0x06 ∷ 0x00 ∷ 0x01 ∷ 0x40 ∷ 0x00 ∷ 0x00 ∷ 0x00 ∷ 0x0d ∷ 0x1d ∷ []) ≡ fails (MSliceOutOfBounds 0 6)
  -- a jump that is not taken needs no operand
  pub not_taken : first_run (0x01 ∷ 0x00 ∷ 0x00 ∷ 0x00 ∷ 0x00 ∷ 0x1a ∷ []) ≡ gives []
  -- signal 2 means no payload
  pub signal_2 : first_run (0x1b ∷ 0x00 ∷ 0x05 ∷ 0x04 ∷ 0x02 ∷ 0x01 ∷ 0x00 ∷ 0x00 ∷ 0x00 ∷ 0x01 ∷ []) ≡ gives (to_u32_val 1 ∷ make_vec_tagged 0 5 4 ∷ [])
  -- an operand that the end cuts: C10
  pub cut_operand : first_run (0x01 ∷ 0x00 ∷ []) ≡ panics
  -- the same of a byte
  pub cut_byte : first_run (0x03 ∷ []) ≡ panics
  -- data that the end cuts
  pub cut_data : first_run (0x04 ∷ 0x00 ∷ 0x01 ∷ []) ≡ panics
  -- a task, its S_LEN and its state
  pub one_task : first_run (0x1b ∷ 0x00 ∷ 0x02 ∷ 0x04 ∷ 0x01 ∷ 0x61 ∷ 0x62 ∷ 0x06 ∷ 0x03 ∷ 0x04 ∷ 0x00 ∷ 0x00 ∷ 0x07 ∷ 0x0d ∷ 0x03 ∷ 0x00 ∷ 0x05 ∷ 0x01 ∷ 0x08 ∷ []) ≡ gives (to_u32_val 0 ∷ to_u32_val 1 ∷ [])
  -- a title is a copy in new memory
  pub own_title : first_run (0x1b ∷ 0x00 ∷ 0x01 ∷ 0x04 ∷ 0x01 ∷ 0x6e ∷ 0x06 ∷ 0x01 ∷ 0x04 ∷ 0x00 ∷ 0x00 ∷ 0x07 ∷ 0x03 ∷ 0x00 ∷ 0x05 ∷ 0x00 ∷ 0x08 ∷ []) ≡ gives (make_vec_tagged 1 1 4 ∷ [])
  -- CALL of a task's instructions, which push and end
  pub called : first_run (0x1b ∷ 0x00 ∷ 0x00 ∷ 0x04 ∷ 0x01 ∷ 0x06 ∷ 0x01 ∷ 0x04 ∷ 0x00 ∷ 0x03 ∷ 0x03 ∷ 0x12 ∷ 0x12 ∷ 0x07 ∷ 0x03 ∷ 0x00 ∷ 0x11 ∷ []) ≡ gives (to_u32_val 18 ∷ [])
  -- numbers in memory are little-endian, compared as bytes
  pub number_bytes : first_run (0x1b ∷ 0x00 ∷ 0x04 ∷ 0x06 ∷ 0x01 ∷ 0x01 ∷ 0x00 ∷ 0x00 ∷ 0x00 ∷ 0x1b ∷ 0x00 ∷ 0x04 ∷ 0x06 ∷ 0x00 ∷ 0x03 ∷ 0x00 ∷ 0x03 ∷ 0x01 ∷ 0x1d ∷ 0x16 ∷ []) ≡ gives (to_bool_val true ∷ [])
  -- the machine is not made
  pub no_program : first_run [] ≡ fails EmptyInstructions
  -- DROP takes the top value
  pub drops : first_run (0x03 ∷ 0x07 ∷ 0x03 ∷ 0x08 ∷ 0x13 ∷ []) ≡ gives (to_u32_val 7 ∷ [])
  -- and there must be one
  pub drops_nothing : first_run (0x13 ∷ []) ≡ fails StackUnderflow
  -- DUP
  pub duplicates : first_run (0x03 ∷ 0x07 ∷ 0x14 ∷ []) ≡ gives (to_u32_val 7 ∷ to_u32_val 7 ∷ [])
  -- SWAP: the lower value is on top
  pub swaps : first_run (0x03 ∷ 0x01 ∷ 0x03 ∷ 0x02 ∷ 0x15 ∷ []) ≡ gives (to_u32_val 1 ∷ to_u32_val 2 ∷ [])
  -- NEQ of numbers
  pub unequal : first_run (0x03 ∷ 0x01 ∷ 0x03 ∷ 0x02 ∷ 0x17 ∷ []) ≡ gives (to_bool_val true ∷ [])
  -- NEQ of two texts looks at their bytes
  pub equal_texts : first_run (0x1b ∷ 0x00 ∷ 0x01 ∷ 0x04 ∷ 0x01 ∷ 0x61 ∷ 0x1b ∷ 0x00 ∷ 0x01 ∷ 0x04 ∷ 0x01 ∷ 0x61 ∷ 0x17 ∷ []) ≡ gives (to_bool_val false ∷ [])
  -- LT: the lower value is on the left
  pub less : first_run (0x03 ∷ 0x01 ∷ 0x03 ∷ 0x02 ∷ 0x18 ∷ []) ≡ gives (to_bool_val true ∷ [])
  -- GT the same
  pub greater : first_run (0x03 ∷ 0x01 ∷ 0x03 ∷ 0x02 ∷ 0x19 ∷ []) ≡ gives (to_bool_val false ∷ [])
  -- LT is for numbers
  pub less_than_a_bool : first_run (0x03 ∷ 0x01 ∷ 0x14 ∷ 0x16 ∷ 0x03 ∷ 0x02 ∷ 0x18 ∷ []) ≡ fails InvalidType
  -- MUL
  pub product : first_run (0x03 ∷ 0x06 ∷ 0x03 ∷ 0x07 ∷ 0x1f ∷ []) ≡ gives (to_u32_val 42 ∷ [])
  -- 2^16 times 2^16
  pub product_overflows : first_run (0x01 ∷ 0x00 ∷ 0x01 ∷ 0x00 ∷ 0x00 ∷ 0x14 ∷ 0x1f ∷ []) ≡ fails MultiplicationOverflowed
  -- MULI
  pub product_by_operand : first_run (0x03 ∷ 0x06 ∷ 0x1e ∷ 0x00 ∷ 0x00 ∷ 0x00 ∷ 0x07 ∷ []) ≡ gives (to_u32_val 42 ∷ [])
  -- JUMP_IF_FALSE on FALSE goes to its target
  pub jumps : first_run (0x03 ∷ 0x02 ∷ 0x03 ∷ 0x01 ∷ 0x18 ∷ 0x1a ∷ 0x00 ∷ 0x00 ∷ 0x00 ∷ 0x0c ∷ 0x03 ∷ 0x09 ∷ 0x03 ∷ 0x08 ∷ []) ≡ gives (to_u32_val 8 ∷ [])
  -- LOOP goes back while index + 1 is below the limit
  pub two_rounds : first_run (0x03 ∷ 0x02 ∷ 0x03 ∷ 0x00 ∷ 0x0e ∷ 0x10 ∷ 0x0f ∷ []) ≡ gives (to_u32_val 1 ∷ to_u32_val 0 ∷ [])
  -- two loops may be open
  pub three_loops : first_run (0x03 ∷ 0x02 ∷ 0x03 ∷ 0x00 ∷ 0x0e ∷ 0x03 ∷ 0x02 ∷ 0x03 ∷ 0x00 ∷ 0x0e ∷ 0x03 ∷ 0x02 ∷ 0x03 ∷ 0x00 ∷ 0x0e ∷ []) ≡ fails StackOverflow
  -- M_ST takes its size from the stack
  pub zeros : first_run (0x03 ∷ 0x03 ∷ 0x1c ∷ 0x04 ∷ []) ≡ gives (make_vec_tagged 0 3 4 ∷ [])
  -- S_LOAD, a byte without an opcode and END_CALL in main do nothing
  pub nothing : first_run (0x0c ∷ 0x02 ∷ 0x12 ∷ 0x0d ∷ []) ≡ gives (to_u32_val 0 ∷ [])
  -- CALL of no task takes the id
  pub missing_task : first_run (0x03 ∷ 0x05 ∷ 0x11 ∷ 0x0d ∷ []) ≡ gives (to_u32_val 0 ∷ [])
  -- CALL of empty instructions takes the id
  pub empty_task : first_run (0x1b ∷ 0x00 ∷ 0x00 ∷ 0x04 ∷ 0x01 ∷ 0x06 ∷ 0x01 ∷ 0x04 ∷ 0x00 ∷ 0x00 ∷ 0x07 ∷ 0x03 ∷ 0x00 ∷ 0x11 ∷ 0x0d ∷ []) ≡ gives (to_u32_val 1 ∷ [])
  -- a task may not call
  pub called_by_itself : first_run (0x1b ∷ 0x00 ∷ 0x00 ∷ 0x04 ∷ 0x01 ∷ 0x06 ∷ 0x01 ∷ 0x04 ∷ 0x00 ∷ 0x03 ∷ 0x03 ∷ 0x00 ∷ 0x11 ∷ 0x07 ∷ 0x03 ∷ 0x00 ∷ 0x11 ∷ []) ≡ fails StackOverflow
  -- EQ of one text with itself, and of two sizes
  pub one_text_twice : first_run (0x1b ∷ 0x00 ∷ 0x01 ∷ 0x04 ∷ 0x01 ∷ 0x61 ∷ 0x14 ∷ 0x16 ∷ []) ≡ gives (to_bool_val true ∷ [])
  pub longer_text : first_run (0x1b ∷ 0x00 ∷ 0x01 ∷ 0x04 ∷ 0x01 ∷ 0x61 ∷ 0x1b ∷ 0x00 ∷ 0x02 ∷ 0x04 ∷ 0x01 ∷ 0x61 ∷ 0x61 ∷ 0x16 ∷ []) ≡ gives (to_bool_val false ∷ [])
  -- ids count on
  pub two_tasks : first_run (0x1b ∷ 0x00 ∷ 0x00 ∷ 0x04 ∷ 0x01 ∷ 0x06 ∷ 0x02 ∷ 0x04 ∷ 0x00 ∷ 0x00 ∷ 0x07 ∷ 0x1b ∷ 0x00 ∷ 0x00 ∷ 0x04 ∷ 0x01 ∷ 0x06 ∷ 0x03 ∷ 0x04 ∷ 0x00 ∷ 0x00 ∷ 0x07 ∷ 0x0d ∷ 0x03 ∷ 0x01 ∷ 0x05 ∷ 0x01 ∷ 0x08 ∷ []) ≡ gives (to_u32_val 0 ∷ to_u32_val 2 ∷ [])
  -- T_SET_FIELD of a state
  pub new_state : first_run (0x1b ∷ 0x00 ∷ 0x00 ∷ 0x04 ∷ 0x01 ∷ 0x06 ∷ 0x03 ∷ 0x04 ∷ 0x00 ∷ 0x00 ∷ 0x07 ∷ 0x03 ∷ 0x02 ∷ 0x03 ∷ 0x00 ∷ 0x05 ∷ 0x01 ∷ 0x09 ∷ 0x03 ∷ 0x00 ∷ 0x05 ∷ 0x01 ∷ 0x08 ∷ []) ≡ gives (to_u32_val 2 ∷ [])
  -- which is below the count
  pub state_of_the_count : first_run (0x1b ∷ 0x00 ∷ 0x00 ∷ 0x04 ∷ 0x01 ∷ 0x06 ∷ 0x03 ∷ 0x04 ∷ 0x00 ∷ 0x00 ∷ 0x07 ∷ 0x03 ∷ 0x03 ∷ 0x03 ∷ 0x00 ∷ 0x05 ∷ 0x01 ∷ 0x09 ∷ []) ≡ fails (InvalidStatus 3)
  -- of a title
  pub new_title : read_run (0x1b ∷ 0x00 ∷ 0x01 ∷ 0x04 ∷ 0x01 ∷ 0x61 ∷ 0x06 ∷ 0x01 ∷ 0x04 ∷ 0x00 ∷ 0x00 ∷ 0x07 ∷ 0x1b ∷ 0x00 ∷ 0x01 ∷ 0x04 ∷ 0x01 ∷ 0x62 ∷ 0x03 ∷ 0x00 ∷ 0x05 ∷ 0x00 ∷ 0x09 ∷ 0x03 ∷ 0x00 ∷ 0x05 ∷ 0x00 ∷ 0x08 ∷ []) ≡ reads (ok (String (0x62 ∷ [])) ∷ [])
  -- of instructions, which are then called
  pub new_instructions : first_run (0x1b ∷ 0x00 ∷ 0x00 ∷ 0x04 ∷ 0x01 ∷ 0x06 ∷ 0x01 ∷ 0x04 ∷ 0x00 ∷ 0x00 ∷ 0x07 ∷ 0x04 ∷ 0x00 ∷ 0x03 ∷ 0x03 ∷ 0x09 ∷ 0x12 ∷ 0x03 ∷ 0x00 ∷ 0x05 ∷ 0x02 ∷ 0x09 ∷ 0x03 ∷ 0x00 ∷ 0x11 ∷ 0x03 ∷ 0x00 ∷ 0x05 ∷ 0x02 ∷ 0x08 ∷ []) ≡ gives (to_calldata_val 2 ∷ to_u32_val 9 ∷ [])
  -- of a task that is not there
  pub set_without_a_task : first_run (0x03 ∷ 0x01 ∷ 0x03 ∷ 0x05 ∷ 0x05 ∷ 0x01 ∷ 0x09 ∷ []) ≡ fails (TaskNotFound 5)
  -- T_DELETE: S_LEN counts the deleted
  pub deleted : first_run (0x1b ∷ 0x00 ∷ 0x00 ∷ 0x04 ∷ 0x01 ∷ 0x06 ∷ 0x01 ∷ 0x04 ∷ 0x00 ∷ 0x00 ∷ 0x07 ∷ 0x03 ∷ 0x00 ∷ 0x0a ∷ 0x0d ∷ []) ≡ gives (to_u32_val 1 ∷ [])
  -- the task is gone
  pub deleted_task : first_run (0x1b ∷ 0x00 ∷ 0x00 ∷ 0x04 ∷ 0x01 ∷ 0x06 ∷ 0x01 ∷ 0x04 ∷ 0x00 ∷ 0x00 ∷ 0x07 ∷ 0x03 ∷ 0x00 ∷ 0x0a ∷ 0x03 ∷ 0x00 ∷ 0x05 ∷ 0x01 ∷ 0x08 ∷ []) ≡ fails (TaskNotFound 0)
  -- and must have been there
  pub deleted_without_a_task : first_run (0x03 ∷ 0x05 ∷ 0x0a ∷ []) ≡ fails (TaskNotFound 5)
  -- what is saved: the tasks with their instructions, and the next id
  pub saved : saved_run (0x1b ∷ 0x00 ∷ 0x01 ∷ 0x04 ∷ 0x01 ∷ 0x61 ∷ 0x06 ∷ 0x02 ∷ 0x04 ∷ 0x00 ∷ 0x01 ∷ 0x12 ∷ 0x07 ∷ 0x0b ∷ []) ≡ saves (ok (record { tasks = record { id = 0; title = 0x61 ∷ []; state = record { len = 2; state = 0 }; instructions = 0x12 ∷ [] } ∷ []; next_id = 1 }))
  -- S_SAVE of a title that is not UTF-8
  pub saved_without_utf8 : first_run (0x1b ∷ 0x00 ∷ 0x01 ∷ 0x04 ∷ 0x01 ∷ 0xff ∷ 0x06 ∷ 0x02 ∷ 0x04 ∷ 0x00 ∷ 0x00 ∷ 0x07 ∷ 0x0b ∷ []) ≡ fails BytesToStringConversionError
  -- S_SAVE of a reference that names no entry
  pub saved_without_an_entry : first_run (0x1b ∷ 0x00 ∷ 0x01 ∷ 0x04 ∷ 0x01 ∷ 0x61 ∷ 0x06 ∷ 0x02 ∷ 0x03 ∷ 0x07 ∷ 0x07 ∷ 0x0b ∷ []) ≡ fails (InvalidInstructionsIndex 7)
  -- unbox_value of each kind of value
  pub kinds : read_run (0x1b ∷ 0x00 ∷ 0x01 ∷ 0x04 ∷ 0x01 ∷ 0x61 ∷ 0x1b ∷ 0x00 ∷ 0x04 ∷ 0x06 ∷ 0x01 ∷ 0x01 ∷ 0x02 ∷ 0x00 ∷ 0x00 ∷ 0x04 ∷ 0x00 ∷ 0x02 ∷ 0x03 ∷ 0x07 ∷ 0x03 ∷ 0x01 ∷ 0x03 ∷ 0x02 ∷ 0x18 ∷ 0x03 ∷ 0x01 ∷ 0x03 ∷ 0x02 ∷ 0x19 ∷ 0x03 ∷ 0x2a ∷ []) ≡ reads (ok (U32 42) ∷ ok (Truth false) ∷ ok (Truth true) ∷ ok (CallData (0x03 ∷ 0x07 ∷ [])) ∷ ok (VecU32 (513 ∷ [])) ∷ ok (String (0x61 ∷ [])) ∷ [])
  -- numbers of 6 bytes, and a text that is not UTF-8
  pub not_read : read_run (0x1b ∷ 0x00 ∷ 0x01 ∷ 0x04 ∷ 0x01 ∷ 0xff ∷ 0x1b ∷ 0x00 ∷ 0x06 ∷ 0x06 ∷ 0x00 ∷ []) ≡ reads (err SliceSizeMismatch ∷ err BytesToStringConversionError ∷ [])
  -- null, a text without an offset, what is no box, calldata without an entry, numbers at 1, numbers at 0
  pub boxes : unboxed (0x1b ∷ 0x00 ∷ 0x08 ∷ 0x04 ∷ 0x00 ∷ []) (0x7ffc000000000001 ∷ 0x7ffc000000000004 ∷ 0 ∷ 0x7ffc000000140005 ∷ 0xfffc000002000806 ∷ 0xfffc000000000806 ∷ []) ≡ reads (ok Null ∷ err InvalidType ∷ err InvalidType ∷ err (InvalidInstructionsIndex 5) ∷ err AlignmentMismatch ∷ ok (VecU32 (0 ∷ [])) ∷ [])
  -- M_MUTA of a text writes a byte
  pub changed_text : read_run (0x1b ∷ 0x00 ∷ 0x02 ∷ 0x04 ∷ 0x01 ∷ 0x61 ∷ 0x62 ∷ 0x03 ∷ 0x01 ∷ 0x03 ∷ 0x63 ∷ 0x1d ∷ []) ≡ reads (ok (String (0x61 ∷ 0x63 ∷ [])) ∷ [])
  -- a loop that a run leaves open is open in the next
  pub open_loops : third_run (0x03 ∷ 0x05 ∷ 0x03 ∷ 0x00 ∷ 0x0e ∷ 0x10 ∷ []) ≡ fails StackOverflow
  -- a run that ended in a task begins there, and makes no second one
  pub in_a_task : second_run (0x1b ∷ 0x00 ∷ 0x00 ∷ 0x04 ∷ 0x01 ∷ 0x06 ∷ 0x01 ∷ 0x04 ∷ 0x00 ∷ 0x01 ∷ 0x0d ∷ 0x07 ∷ 0x03 ∷ 0x00 ∷ 0x11 ∷ []) ≡ gives (to_u32_val 1 ∷ [])
  -- and else at the program's start: a second task is made
  pub from_the_start : second_run (0x1b ∷ 0x00 ∷ 0x00 ∷ 0x04 ∷ 0x01 ∷ 0x06 ∷ 0x01 ∷ 0x04 ∷ 0x00 ∷ 0x01 ∷ 0x12 ∷ 0x07 ∷ 0x03 ∷ 0x00 ∷ 0x11 ∷ 0x0d ∷ []) ≡ gives (to_u32_val 2 ∷ [])
  -- a second run has new memory
  pub memory_anew : second_run (0x1b ∷ 0x00 ∷ 0x01 ∷ 0x04 ∷ 0x01 ∷ 0x61 ∷ []) ≡ gives (make_vec_tagged 0 1 4 ∷ [])
  -- a loaded task is called and read; ids below it are none
  pub loaded : loaded_run (0x03 ∷ 0x01 ∷ 0x11 ∷ 0x0d ∷ 0x03 ∷ 0x01 ∷ 0x05 ∷ 0x01 ∷ 0x08 ∷ 0x03 ∷ 0x01 ∷ 0x05 ∷ 0x00 ∷ 0x08 ∷ 0x03 ∷ 0x01 ∷ 0x05 ∷ 0x02 ∷ 0x08 ∷ []) ≡ gives (to_calldata_val 1 ∷ make_vec_tagged 0 2 4 ∷ to_u32_val 2 ∷ to_u32_val 2 ∷ to_u32_val 9 ∷ [])
  -- the next id is the loaded one
  pub loaded_next_id : loaded_run (0x1b ∷ 0x00 ∷ 0x00 ∷ 0x04 ∷ 0x01 ∷ 0x06 ∷ 0x01 ∷ 0x04 ∷ 0x00 ∷ 0x00 ∷ 0x07 ∷ 0x0d ∷ []) ≡ gives (to_u32_val 4 ∷ [])
