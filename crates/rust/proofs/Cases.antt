-- The answers that the Rust itself gave, computed from its definition.
use mathlib.Core.Path.{refl}
use Rattle.bytecode.specs.Operands.{big_endian}
use Rattle.slices.specs.Numbers.{little_endian}
use Rattle.slices.specs.Same.{same}
use Rattle.utf8.specs.Grammar.{UTF8_char}
use Rattle.utf8.specs.Utf8.{valid, from, lead, holds}
use Rattle.values.specs.Values.{make_scalar_tagged, make_vec_tagged, to_bool_val, is_qnan, is_scalar, is_vec, is_u32_val, raw_tag, to_u32, fat_pointer, bool_not, vec_type, scalar_type, get_value_type}
use Rattle.rust.specs.InlineVec.{push, pop, last}
use Rattle.rust.specs.Values as values
use Rattle.rust.specs.Helpers.{byte, slice, prepare_u32_from_be_checked, prepare_u16_from_be_checked}
use Rattle.rust.specs.Memory.{offset_aligned, resize, element_size_bytes, boxed, alloc, words, mut_vec, get_slice_bytes, get_slice_as_str, get_slice_as_u32, is_m_slice_eq}
use Rattle.rust.specs.Instructions.{intern_instructions, get}
use Rattle.rust.specs.TaskTypes.{default, set_state, try_from, to_task}
use Rattle.rust.specs.Storage as storage
use Rattle.rust.specs.Vm as vm
use Rattle.rust.specs.Run.{init, onward, finish, finished, while, begin, run}
use Rattle.rust.specs.Unbox.{unbox_as, unbox_value}
use Rattle.rust.specs.Cases.{answer_by, first_by, run_over, first_run, loaded_run, second_run, third_run, read_run, unboxed, saved_run, Cases}

pub cases : Cases
unfolding answer_by first_by run_over first_run loaded_run second_run third_run read_run unboxed saved_run unbox_as unbox_value get_value_type vec_type scalar_type is_scalar is_u32_val bool_not valid from lead holds UTF8_char init intern_instructions storage.load storage.from_tasks storage.resize storage.put storage.add storage.get storage.len storage.changed storage.delete storage.save storage.to_tasks push pop last get run begin onward while finished finish vm.step vm.exec vm.push_u32 vm.push_calldata vm.push_state vm.mul vm.muli vm.t_create vm.get_field vm.t_get_field vm.set_field vm.t_set_field vm.t_delete vm.s_save vm.s_len vm.«do» vm.loop vm.loop_index vm.jump_if_false vm.dup vm.swap vm.drop vm.eq vm.neq vm.compare vm.m_sti vm.m_st vm.m_muta vm.allocs vm.enters vm.call vm.end_call vm.pushes vm.last_pc prepare_u32_from_be_checked prepare_u16_from_be_checked byte slice big_endian little_endian offset_aligned resize element_size_bytes boxed alloc mut_vec get_slice_bytes get_slice_as_str get_slice_as_u32 words is_m_slice_eq default set_state try_from to_task values.to_vec_val values.tag values.to_fat_pointer values.product values.mul_checked values.mul_checked_i values.alike values.value_eq values.value_neq values.value_cmp to_u32 make_scalar_tagged make_vec_tagged to_bool_val is_qnan is_vec raw_tag fat_pointer same
cases = record {
  one_turn = refl;
  index_above_limit = refl;
  index_does_not_wrap = refl;
  number_equals_vector = refl;
  vector_on_the_left = refl;
  number_unequal_to_vector = refl;
  vector_unequal_to_number = refl;
  true_and_false = refl;
  true_unequal_to_false = refl;
  text_and_number = refl;
  equal_calldata = refl;
  states_before_title = refl;
  field_before_id = refl;
  pop_before_operand = refl;
  size_before_operand = refl;
  wrapped_index = refl;
  not_taken = refl;
  signal_2 = refl;
  cut_operand = refl;
  cut_byte = refl;
  cut_data = refl;
  one_task = refl;
  own_title = refl;
  called = refl;
  number_bytes = refl;
  no_program = refl;
  drops = refl;
  drops_nothing = refl;
  duplicates = refl;
  swaps = refl;
  unequal = refl;
  equal_texts = refl;
  less = refl;
  greater = refl;
  less_than_a_bool = refl;
  product = refl;
  product_overflows = refl;
  product_by_operand = refl;
  jumps = refl;
  two_rounds = refl;
  three_loops = refl;
  zeros = refl;
  nothing = refl;
  missing_task = refl;
  empty_task = refl;
  called_by_itself = refl;
  one_text_twice = refl;
  longer_text = refl;
  two_tasks = refl;
  new_state = refl;
  state_of_the_count = refl;
  new_title = refl;
  new_instructions = refl;
  set_without_a_task = refl;
  deleted = refl;
  deleted_task = refl;
  deleted_without_a_task = refl;
  saved = refl;
  saved_without_utf8 = refl;
  saved_without_an_entry = refl;
  kinds = refl;
  not_read = refl;
  boxes = refl;
  changed_text = refl;
  open_loops = refl;
  in_a_task = refl;
  from_the_start = refl;
  memory_anew = refl;
  loaded = refl;
  loaded_next_id = refl;
}
