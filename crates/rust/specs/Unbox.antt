-- vm.rs: what a host reads: unbox_value of a value that a run returned, and print_task. The type of a value is said once, in the crate values: None is InvalidType.
use Rattle.std.specs.Prelude.{ℕ, Bool, true, List, eqb, Option, Some, None}
use Rattle.values.specs.Values.{to_u32, to_bool_val, get_value_type}
use Rattle.values.specs.declared.ValueType.{ValueType}
use Rattle.values.specs.declared.ValueType.TheVariants as type
use Rattle.rust.specs.Errors.{Out, ok, err, InvalidType, TaskNotFound}
use Rattle.rust.specs.Values.{to_fat_pointer}
use Rattle.rust.specs.Memory.{get_slice_as_str, get_slice_as_u32}
use Rattle.rust.specs.Instructions.{get}
use Rattle.rust.specs.TaskTypes.{Task, to_task}
use Rattle.rust.specs.Storage as storage
use Rattle.rust.specs.Vm.{VM}

pub data Return : Type 0 where
  U32 : ℕ → Return
  String : List ℕ → Return
  CallData : List ℕ → Return
  Truth : Bool → Return
  VecU32 : List ℕ → Return
  Null : Return

unfoldable pub unbox_as : VM → ℕ → Option ValueType → Out Return
unbox_as vm val (Some type.U32) = ok (U32 (to_u32 val))
unbox_as vm val (Some type.Boolean) = ok (Truth (eqb val (to_bool_val true)))
unbox_as vm val (Some type.String) =
    to_fat_pointer val λ pointer.
    get_slice_as_str vm.memory pointer λ str.
    ok (String str)
unbox_as vm val (Some type.CallData) = get vm.instructions_pool (to_u32 val) λ bytecode. ok (CallData bytecode)
unbox_as vm val (Some type.VecU32) =
    to_fat_pointer val λ pointer.
    get_slice_as_u32 vm.memory pointer λ u32-slice.
    ok (VecU32 u32-slice)
unbox_as vm val (Some type.Null) = ok Null
unbox_as vm val None = err InvalidType

unfoldable pub unbox_value : VM → ℕ → Out Return
unbox_value vm val = unbox_as vm val (get_value_type val)

unfoldable pub print_task : VM → ℕ → Out Task
print_task vm id =
    storage.if_some (storage.get vm.storage id) (λ task-vm. to_task task-vm vm.instructions_pool ok)
    (err (TaskNotFound id))
