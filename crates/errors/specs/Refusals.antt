-- The table of refusals (docs/REFERENCE.md, 'Refusals'): the number and the details of each refusal.
use Rattle.std.specs.Prelude.{ℕ, List, [], ◌∷◌}
use Rattle.errors.specs.declared.Refusal.{Refusal}
use Rattle.errors.specs.declared.Refusal.TheVariants.{EmptyInstructions, UnexpectedEOB, StackUnderflow, StackOverflow, InvalidType, TypeMismatch, MultiplicationOverflowed, MaxStatesError, TaskNotFound, InvalidTaskField, InvalidStatus, InvalidInstructionsIndex, MSliceParamOverflow, MSliceOutOfBounds, BytesToStringConversionError, AlignmentMismatch, SliceSizeMismatch, TableFull, TitleTooLong, PoolFull, MemoryTooShort, SaveBufferTooShort, BadImage, WrongPhaseOrUnsound, NotAdmitted, ProgramTooLong}
use Rattle.errors.specs.declared.Details.{Details}
use Rattle.errors.specs.declared.Details.TheVariants.{Nothing, One, Two}

-- the number
abbrev pub number_of : Refusal → ℕ
number_of EmptyInstructions = 1
number_of UnexpectedEOB = 2
number_of StackUnderflow = 3
number_of StackOverflow = 4
number_of InvalidType = 5
number_of TypeMismatch = 6
number_of MultiplicationOverflowed = 7
number_of MaxStatesError = 8
number_of (TaskNotFound id) = 9
number_of (InvalidTaskField field) = 10
number_of (InvalidStatus state) = 11
number_of (InvalidInstructionsIndex index) = 12
number_of MSliceParamOverflow = 13
number_of (MSliceOutOfBounds index size) = 14
number_of BytesToStringConversionError = 15
number_of AlignmentMismatch = 16
number_of SliceSizeMismatch = 17
number_of TableFull = 20
number_of TitleTooLong = 21
number_of PoolFull = 22
number_of MemoryTooShort = 23
number_of SaveBufferTooShort = 24
number_of (BadImage place) = 25
number_of WrongPhaseOrUnsound = 26
number_of (NotAdmitted place) = 27
number_of ProgramTooLong = 28

-- the details, in the table's order
abbrev pub details_of : Refusal → List ℕ
details_of EmptyInstructions = []
details_of UnexpectedEOB = []
details_of StackUnderflow = []
details_of StackOverflow = []
details_of InvalidType = []
details_of TypeMismatch = []
details_of MultiplicationOverflowed = []
details_of MaxStatesError = []
details_of (TaskNotFound id) = id ∷ []
details_of (InvalidTaskField field) = field ∷ []
details_of (InvalidStatus state) = state ∷ []
details_of (InvalidInstructionsIndex index) = index ∷ []
details_of MSliceParamOverflow = []
details_of (MSliceOutOfBounds index size) = index ∷ size ∷ []
details_of BytesToStringConversionError = []
details_of AlignmentMismatch = []
details_of SliceSizeMismatch = []
details_of TableFull = []
details_of TitleTooLong = []
details_of PoolFull = []
details_of MemoryTooShort = []
details_of SaveBufferTooShort = []
details_of (BadImage place) = place ∷ []
details_of WrongPhaseOrUnsound = []
details_of (NotAdmitted place) = place ∷ []
details_of ProgramTooLong = []

-- the details of an answer, as a list
abbrev pub listed : Details → List ℕ
listed Nothing = []
listed (One a) = a ∷ []
listed (Two a b) = a ∷ b ∷ []
