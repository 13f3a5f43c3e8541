-- Writing one piece after another, and the pieces of a record.
use Prim.Native.Nat.{ℕ, ◌+◌, ◌≤◌, min}
use mathlib.Core.Bool.{Bool, true, false}
use mathlib.Core.List.{List, ◌∷◌, ◌++◌, append_assoc}
use mathlib.Core.Path.{◌≡◌, refl, ap, sym, ◌∙◌}
use native.Mathlib.Omega.{arith}
use lib.Dec.{leb}
use lib.ListN.{length, take, drop, length-append, length-take, length-drop}
use lib.Seq.{sets, length-sets}
use borrow.Author.Tests.{leb-true, leb-false}
use Rattle.errors.specs.declared.Refusal.TheVariants.{BytesToStringConversionError}
use Rattle.image.specs.Image.{ImageTask, record_of, body}
use Rattle.slices.specs.Numbers.{little_endian}
use Rattle.image.specs.Walking.{on}
use Rattle.image.specs.Slots.{saved_task}
use Rattle.image.specs.Writing.{Put, put, puts, size_of}
use Rattle.slices.proofs.SlicesWrites.{sets_append, sets_out}
use Rattle.storage.specs.declared.Task.{Task}
use Rattle.utf8.specs.Utf8.{valid}
use Rattle.std.specs.Prelude.{Ok, Err}

-- a place past the buffer's end counts as the end
sets_on : (save : List ℕ) (place count : ℕ) (bytes : List ℕ) → sets save (on (length save) place count) bytes ≡ sets save (place + count) bytes
unfolding on
sets_on save place count bytes = by (leb (place + count) (length save)) refl
  where
    by : (test : Bool) → leb (place + count) (length save) ≡ test → sets save (min (place + count) (length save)) bytes ≡ sets save (place + count) bytes
    by true inside =
        let less : place + count ≤ length save = leb-true _ _ inside in
        let e : min (place + count) (length save) ≡ place + count = omega arith in
        ap (λ (k : ℕ). sets save k bytes) e
    by false past =
        let more = leb-false (place + count) (length save) past in
        let e : min (place + count) (length save) ≡ length save = omega arith in
        ap (λ (k : ℕ). sets save k bytes) e ∙ sets_out save (length save) bytes (omega arith) ∙ sym (sets_out save (place + count) bytes (omega arith))

on_on : (length place count more : ℕ) → on length (on length place count) more ≡ on length place (count + more)
unfolding on
on_on length place count more = omega arith

-- one piece, then the next
pub puts_puts : (save : List ℕ) (place : ℕ) (bytes more : List ℕ) → puts (puts save place bytes).save (puts save place bytes).place more ≡ puts save place (bytes ++ more)
unfolding puts
puts_puts save place bytes more =
    rw (length-sets save place bytes, length-append bytes more, on_on (length save) place (length bytes) (length more))
    (ap (λ (s : List ℕ). put (on (length save) place (length bytes + length more)) s)
    (written ∙ sym (sets_append save place bytes more)))
  where
    written : sets (sets save place bytes) (on (length save) place (length bytes)) more ≡ sets (sets save place bytes) (place + length bytes) more
    written = ap (λ (n : ℕ). sets (sets save place bytes) (on n place (length bytes)) more) (sym (length-sets save place bytes)) ∙ sets_on (sets save place bytes) place (length bytes) more

-- the same, as a writer has it
pub then : (save : List ℕ) (place : ℕ) {between after : List ℕ} {behind last : ℕ} (bytes more : List ℕ) → put behind between ≡ puts save place bytes → put last after ≡ puts between behind more → put last after ≡ puts save place (bytes ++ more)
then save place {between} {after} {behind} {last} bytes more first second =
    let s : between ≡ (puts save place bytes).save = ap (λ (p : Put). p.save) first in
    let b : behind ≡ (puts save place bytes).place = ap (λ (p : Put). p.place) first in
    second ∙ rw (s, b) (puts_puts save place bytes more)

-- ---- the pieces of a record

-- a body's length
pub body_size : (task : ImageTask) → length (body task) ≡ 8 + (length task.title + length task.instructions)
unfolding body little_endian
body_size task = omega (arith, length-append task.title task.instructions)

-- a record's length
pub record_size : (task : ImageTask) → length (record_of 2 (body task)) ≡ 14 + (length task.title + length task.instructions)
unfolding record_of little_endian
record_size task = omega (arith, body_size task)

-- a record, opened
pub framed_open : (bytes rest : List ℕ) (kind size : ℕ) → length bytes ≡ size → record_of kind bytes ++ rest ≡ little_endian 4 size ++ (little_endian 2 kind ++ (bytes ++ rest))
unfolding record_of
framed_open bytes rest kind size e = rw e (simp append_assoc)

pub body_open : (task : ImageTask) (rest : List ℕ) → body task ++ rest ≡ little_endian 4 task.id ++ (task.count ∷ task.state ∷ (little_endian 2 (length task.title) ++ (task.title ++ (task.instructions ++ rest))))
unfolding body
body_open task rest = simp append_assoc

-- the first 14 bytes, the title and the instructions are the record
pieces : (task : ImageTask) → little_endian 4 (8 + length task.title + length task.instructions) ++ little_endian 2 2 ++ little_endian 4 task.id ++ task.count ∷ task.state ∷ little_endian 2 (length task.title) ++ task.title ++ task.instructions ≡ record_of 2 (body task)
unfolding record_of body
pieces task =
    let n : length (body task) ≡ 8 + length task.title + length task.instructions = omega (arith, body_size task) in
    rw n (simp append_assoc)

-- so a record is written
pub record_put : (save : List ℕ) (at : ℕ) (slot : Task) (instructions : List ℕ) {first title one two three : List ℕ} {behind behind-title last : ℕ}
    → title ≡ take slot.title_len slot.title
    → first ≡ little_endian 4 (8 + length title + length instructions) ++ little_endian 2 2 ++ little_endian 4 slot.id.0 ++ slot.state.len ∷ slot.state.state ∷ little_endian 2 (length title)
    → put behind one ≡ puts save at first → put behind-title two ≡ puts one behind title → put last three ≡ puts two behind-title instructions
    → put last three ≡ puts save at (record_of 2 (body (saved_task slot instructions)))
unfolding saved_task
record_put save at slot instructions {first} {title} t f a b c =
    let x = then save at first title a b in
    let y = then save at (first ++ title) instructions x c in
    y ∙ rw (f, t) (ap (puts save at) (pieces (saved_task slot instructions)))

-- a piece is written
pub put_is : (save : List ℕ) (at : ℕ) (bytes : List ℕ) {after : List ℕ} {last : ℕ} → after ≡ sets save at bytes → last ≡ on (length after) at (length bytes) → put last after ≡ puts save at bytes
unfolding puts
put_is save at bytes {after} {last} w n =
    let l : length after ≡ length save = ap length w ∙ length-sets save at bytes in
    rw (n, l, w)

-- ---- the size of a record

module _ (slot : Task) (instructions : List ℕ) {title : List ℕ} {test : Bool} (t : title ≡ take slot.title_len slot.title) (v : test ≡ valid title) where
  -- 15
  pub no_text : test ≡ false → Err BytesToStringConversionError ≡ size_of (saved_task slot instructions)
  unfolding size_of saved_task
  no_text held = rw (← t, ← v, held)

  -- a size
  pub size_is : test ≡ true → Ok (14 + length title + length instructions) ≡ size_of (saved_task slot instructions)
  unfolding size_of saved_task
  size_is held =
      let n : 14 + length (take slot.title_len slot.title) + length instructions ≡ length (record_of 2 (body (saved_task slot instructions))) = omega (arith, record_size (saved_task slot instructions)) in
      rw (← t, ← v, held, t) (ap Ok n)

-- a part of a title's bytes is no longer than they are
pub part_short : (start size : ℕ) (held : List ℕ) {part : List ℕ} → part ≡ take size (drop start held) → length part ≤ length held
part_short start size held e = rw e (simp (length-take, length-drop) (omega arith))
