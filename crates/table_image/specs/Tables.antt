-- What the loops over the lent table answer, and what is lent after them.
use Rattle.std.specs.Prelude.{ℕ, List, Ok, Err, Result}
use Rattle.errors.specs.declared.Refusal.{Refusal}
use Rattle.storage.specs.declared.Task.{Task}
use Rattle.image.specs.Table.{Loading}
use Rattle.table_image.specs.Loops.{Measured, measured, refused}
use Rattle.table_image.specs.declared.InUse.{InUse}

-- an answer, and the table, the pool and its ends after it
pub record Held (A : Type 0) : Type 0 where
  pub answer : A
  pub table : List Task
  pub pool : List ℕ
  pub ends : List ℕ

-- these four together
abbrev pub held : {A : Type 0} → A → List Task → List ℕ → List ℕ → Held A
held answer table pool ends = record { answer = answer; table = table; pool = pool; ends = ends }

-- ---- measuring

-- the size and the count, or the refusal
unfoldable pub measured_as : Result (ℕ × ℕ) Refusal → Measured
measured_as (Ok (size, count)) = measured size count
measured_as (Err refusal) = refused refusal

-- ---- loading

-- so many bytes and entries in use
abbrev pub in_use : ℕ → ℕ → InUse
in_use bytes entries = record { bytes = bytes; entries = entries }

-- the table and the pool, with what is in use of it
abbrev pub loading : List Task → List ℕ → List ℕ → InUse → Loading
loading table pool ends used = record { table = table; pool = pool; ends = ends; bytes = used.bytes; entries = used.entries }
