-- Registers taken out of a machine and put back.
use Prim.Native.Nat.{ℕ}
use mathlib.Core.Bool.{Bool, true, false}
use mathlib.Core.List.{List}
use mathlib.Core.Path.{◌≡◌, refl, ap}
use lib.Dec.{eqb}
use lib.ListN.{get_or}
use Rattle.inlinevec.specs.Stacks.{last_two, change_two}
use Rattle.inlinevec.specs.declared.Frame.{Frame}
use Rattle.mechanism.specs.declared.Registers.{Registers}
use Rattle.machine.specs.declared.Machine.{Machine}
use Rattle.machine.specs.Machines.{current, with_current, code_of, with_frames}
use Rattle.mechanism.specs.Registers.{registers_of, settled}
use Rattle.machine.specs.Machines.{op_at}
use Rattle.inlinevec.specs.declared.Two.{Two}

-- by a test
pub on_bool : {A : Type 0} (b : Bool) → (b ≡ true → A) → (b ≡ false → A) → A
on_bool true f g = f refl
on_bool false f g = g refl

-- the frame that runs after it was changed, changed again, and not changed
pub current_changed : (frames : Two Frame) (frame : Frame) → current (with_current frames frame) ≡ frame
unfolding current with_current last_two change_two
current_changed frames frame = on_bool (eqb frames.count 1) (λ t. simp (t)) (λ t. simp (t))

pub changed_twice : (frames : Two Frame) (frame other : Frame) → with_current (with_current frames frame) other ≡ with_current frames other
unfolding with_current change_two
changed_twice frames frame other = on_bool (eqb frames.count 1) (λ t. simp (t)) (λ t. simp (t))

pub changed_same : (frames : Two Frame) → with_current frames (current frames) ≡ frames
unfolding current with_current last_two change_two
changed_same frames = on_bool (eqb frames.count 1) (λ t. simp (t)) (λ t. simp (t))

-- what was put back is taken out again
pub registers_settled : (machine : Machine) (registers : Registers) → registers_of (settled machine registers) ≡ registers
unfolding registers_of settled
registers_settled machine registers = simp (current_changed)

-- the code stays
pub code_settled : (pool ends : List ℕ) (machine : Machine) (registers : Registers) → code_of pool ends (settled machine registers) ≡ code_of pool ends machine
unfolding code_of settled
code_settled pool ends machine registers = simp (current_changed)

pub place_settled : (machine : Machine) (registers : Registers) → (current (settled machine registers).frames).place ≡ registers.place
unfolding settled
place_settled machine registers = simp (current_changed)

-- the last one put back counts
pub settled_twice : (machine : Machine) (registers others : Registers) → settled (settled machine registers) others ≡ settled machine others
unfolding settled
settled_twice machine registers others = simp (current_changed, changed_twice)

-- put back as it was
pub settled_same : (machine : Machine) → settled machine (registers_of machine) ≡ machine
unfolding settled registers_of
settled_same machine = ap (λ (frames : Two Frame). with_frames machine frames) (changed_same machine.frames)

-- the opcode at hand
pub op_settled : (pool ends : List ℕ) (machine : Machine) (registers : Registers) → op_at pool ends (settled machine registers) ≡ get_or (code_of pool ends machine) registers.place 0
unfolding op_at
op_settled pool ends machine registers = simp (code_settled, place_settled)

-- the count stays
pub count_settled : (machine : Machine) (registers : Registers) → (settled machine registers).count ≡ machine.count
unfolding settled
count_settled machine registers = refl
