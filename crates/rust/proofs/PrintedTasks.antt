-- What print_task of the Rust itself answered, computed from its definition.
use mathlib.Core.Path.{refl}
use Rattle.bytecode.specs.Operands.{big_endian}
use Rattle.utf8.specs.Utf8.{holds, lead, from, valid}
use Rattle.utf8.specs.Grammar.{UTF8_char}
use Rattle.values.specs.Values.{make_scalar_tagged, make_vec_tagged, is_vec, to_u32, fat_pointer}
use Rattle.rust.specs.InlineVec.{push, pop, last}
use Rattle.rust.specs.Values as values
use Rattle.rust.specs.Helpers.{byte, slice, prepare_u16_from_be_checked}
use Rattle.rust.specs.Memory.{offset_aligned, resize, boxed, alloc, get_slice_bytes}
use Rattle.rust.specs.Instructions.{intern_instructions, get}
use Rattle.rust.specs.TaskTypes.{to_task, default, set_state, try_from}
use Rattle.rust.specs.Storage as storage
use Rattle.rust.specs.Vm as vm
use Rattle.rust.specs.Run.{init, onward, finish, finished, while, begin, run}
use Rattle.rust.specs.Unbox.{print_task}
use Rattle.rust.specs.PrintedTasks.{printed_after, printed_by, printed, PrintedTasks}

pub printed_tasks : PrintedTasks
unfolding printed_after printed_by printed print_task to_task init intern_instructions storage.load storage.from_tasks storage.resize storage.put storage.add storage.get storage.changed storage.delete push pop last get run begin onward while finished finish vm.step vm.exec vm.push_calldata vm.push_state vm.t_create vm.set_field vm.t_set_field vm.t_delete vm.m_sti vm.allocs vm.pushes vm.last_pc prepare_u16_from_be_checked byte slice big_endian offset_aligned resize boxed alloc get_slice_bytes default set_state try_from values.to_vec_val values.to_fat_pointer to_u32 make_scalar_tagged make_vec_tagged is_vec fat_pointer holds lead from valid UTF8_char
printed_tasks = record { whole = refl; one_byte = refl; not_there = refl; deleted = refl; no_entry = refl; no_text = refl }
