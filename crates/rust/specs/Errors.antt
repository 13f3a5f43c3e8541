-- errors.rs: the errors that a run and a read answer, and what a call comes to. A `?` is the continuation that a call is given; what a failing call leaves is not said.
use Rattle.std.specs.Prelude.{ℕ}

-- VMError, as far as init, run, unbox and print_task answer it, what is loaded and saved being values
pub data VMError : Type 0 where
  TaskNotFound : ℕ → VMError
  InvalidInstructionsIndex : ℕ → VMError
  StackUnderflow : VMError
  StackOverflow : VMError
  MSliceParamOverflow : VMError
  MSliceOutOfBounds : ℕ → ℕ → VMError
  TypeMismatch : VMError
  InvalidType : VMError
  EmptyInstructions : VMError
  MaxStatesError : VMError
  InvalidStatus : ℕ → VMError
  InvalidTaskField : ℕ → VMError
  BytesToStringConversionError : VMError
  AlignmentMismatch : VMError
  MultiplicationOverflowed : VMError
  SliceSizeMismatch : VMError

-- a value, an error or a panic
pub data Out (A : Type 0) : Type 0 where
  ok : A → Out A
  err : VMError → Out A
  panic : Out A
