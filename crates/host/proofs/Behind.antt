-- One line behind those so far: put into the tail of a buffer, or only measured.
use Prim.Native.Nat.{ℕ, ◌+◌, ◌-◌, ◌≤◌, ◌<◌}
use mathlib.Core.Bool.{Bool, true, false}
use mathlib.Core.List.{List, []}
use mathlib.Core.Path.{◌≡◌, refl, sym, ap, ◌∙◌}
use native.Mathlib.Omega.{arith}
use lib.Dec.{leb}
use lib.ListN.{length}
use lib.Seq.{sets, length-sets}
use borrow.Author.Tests.{le-leb, lt-leb, lt-ltb, le-ltb, leb-true, leb-false}
use borrow.Rule.Slice.PartMut.{mid_of, put_mid, mid_len}
use Rattle.slices.proofs.SlicesWrites.{put_tail}
use Rattle.errors.specs.declared.Refusal.TheVariants.{SaveBufferTooShort}
use Rattle.text.specs.Lines.{Lined, lined, put_line, measure_line, tell_line}
use Rattle.host.specs.Lines.{line_start, counted, sized, behind, next_text, next}
use Rattle.std.specs.Prelude.{Ok, Err, Result}
use Rattle.errors.specs.declared.Refusal.{Refusal}

-- the largest number of 64 bits
abbrev pub most : ℕ
most = 18446744073709551615

-- ---- a test and what it decides

put_true : (out text : List ℕ) → leb (length text) (length out) ≡ true → put_line out text ≡ lined (Ok (length text)) (sets out 0 text)
unfolding put_line
put_true out text test = rw test

put_false : (out text : List ℕ) → leb (length text) (length out) ≡ false → put_line out text ≡ lined (Err SaveBufferTooShort) out
unfolding put_line
put_false out text test = rw test

pub behind_fits : (at : ℕ) (out text : List ℕ) → at + length text ≤ length out → behind true at out text ≡ lined (Ok (at + length text)) (sets out at text)
unfolding behind
behind_fits at out text fits = rw (le-leb (at + length text) (length out) fits)

behind_over : (at : ℕ) (out text : List ℕ) → length out < at + length text → behind true at out text ≡ lined (Err SaveBufferTooShort) out
unfolding behind
behind_over at out text over = rw (lt-leb (at + length text) (length out) over)

pub sized_fits : (size : ℕ) → size ≤ most → sized size ≡ Ok size
unfolding sized
sized_fits size fits = rw (le-leb size most fits)

pub sized_over : (size : ℕ) → most < size → sized size ≡ Err SaveBufferTooShort
unfolding sized
sized_over size over = rw (lt-leb size most over)

counts : (at size : ℕ) → at + size ≤ most → counted at (Ok size) ≡ Ok (at + size)
unfolding counted
counts at size fits = let inside : at ≤ most - size = omega arith in rw (le-ltb (most - size) at inside)

counts_over : (at size : ℕ) → size ≤ most → most < at + size → counted at (Ok size) ≡ Err SaveBufferTooShort
unfolding counted
counts_over at size small over = let past : most - size < at = omega arith in rw (lt-ltb (most - size) at past)

counts_none : (at : ℕ) → counted at (Err SaveBufferTooShort) ≡ Err SaveBufferTooShort
unfolding counted
counts_none at = refl

-- a line that was measured, counted behind others
measured_behind : (at : ℕ) (text : List ℕ) → counted at (measure_line text) ≡ sized (at + length text)
unfolding measure_line
measured_behind at text = by (leb (length text) most) refl (leb (at + length text) most) refl
  where
    by : (one : Bool) → leb (length text) most ≡ one → (both : Bool) → leb (at + length text) most ≡ both → counted at (measure_line text) ≡ sized (at + length text)
    by true small true fits =
        let whole : at + length text ≤ most = leb-true (at + length text) most fits in
        rw small (counts at (length text) whole ∙ sym (sized_fits (at + length text) whole))
    by true small false over =
        let past : most < at + length text = leb-false (at + length text) most over in
        rw small (counts_over at (length text) (leb-true (length text) most small) past ∙ sym (sized_over (at + length text) past))
    by false large both test =
        let past : most < length text = leb-false (length text) most large in
        rw large (counts_none at ∙ sym (sized_over (at + length text) (omega arith)))

-- ---- in the tail of a buffer

-- past the buffer's end
past_end : (writes : Bool) (at : ℕ) (out text : List ℕ) → length out < line_start writes at → lined (Err SaveBufferTooShort) out ≡ behind writes at out text
past_end true at out text past = sym (behind_over at out text (omega arith))
past_end false at out text past = absurd (omega arith)

module _ (at : ℕ) (out text : List ℕ) (inside : at ≤ length out) (small : length out ≤ most) where
  abbrev tail : List ℕ
  tail = mid_of at (length out - at) out

  tail_length : length tail ≡ length out - at
  tail_length = mid_len at (length out) out (omega arith)

  -- put into the tail, which came back
  put_behind : {answer : Result ℕ Refusal} {after : List ℕ} → lined answer after ≡ put_line tail text
      → lined (counted at answer) (put_mid at (length out - at) out after) ≡ behind true at out text
  put_behind {answer} {after} put = by (leb (length text) (length tail)) refl
    where
      by : (fits : Bool) → leb (length text) (length tail) ≡ fits → lined (counted at answer) (put_mid at (length out - at) out after) ≡ behind true at out text
      by true test =
          let room : length text ≤ length tail = leb-true (length text) (length tail) test in
          let inside-it : at + length text ≤ length out = omega (arith, tail_length) in
          let countable : at + length text ≤ most = omega arith in
          ap (λ (l : Lined). lined (counted at l.answer) (put_mid at (length out - at) out l.out)) (put ∙ put_true tail text test)
          ∙ ap (λ (a : Result ℕ Refusal). lined a (put_mid at (length out - at) out (sets tail 0 text))) (counts at (length text) countable)
          ∙ ap (lined (Ok (at + length text))) (put_tail out text at inside-it)
          ∙ sym (behind_fits at out text inside-it)
      by false test =
          let short : length tail < length text = leb-false (length text) (length tail) test in
          let nothing_put : at + 0 ≤ length out = omega arith in
          ap (λ (l : Lined). lined (counted at l.answer) (put_mid at (length out - at) out l.out)) (put ∙ put_false tail text test)
          ∙ ap (λ (a : Result ℕ Refusal). lined a (put_mid at (length out - at) out tail)) (counts_none at)
          ∙ ap (lined (Err SaveBufferTooShort)) (put_tail out [] at nothing_put)
          ∙ sym (behind_over at out text (omega (arith, tail_length)))

-- told to the tail from where it goes
told_behind : (writes : Bool) (at : ℕ) (out text : List ℕ) → line_start writes at ≤ length out → length out ≤ most → {answer : Result ℕ Refusal} {after : List ℕ}
    → lined answer after ≡ tell_line writes (mid_of (line_start writes at) (length out - line_start writes at) out) text
    → lined (counted at answer) (put_mid (line_start writes at) (length out - line_start writes at) out after) ≡ behind writes at out text
unfolding tell_line behind
told_behind true at out text inside small told = put_behind at out text inside small told
told_behind false at out text inside small told =
    ap (λ (l : Lined). lined (counted at l.answer) (put_mid 0 (length out - 0) out l.out)) told
    ∙ ap (λ (a : Result ℕ Refusal). lined a (put_mid 0 (length out - 0) out (mid_of 0 (length out - 0) out))) (measured_behind at text)
    ∙ ap (lined (sized (at + length text))) (put_tail out [] 0 (omega arith))

-- ---- behind the lines so far

-- one line more
pub one_more : (writes : Bool) (at : ℕ) (out text : List ℕ) {start : ℕ} → start ≡ line_start writes at → start ≤ length out → length out ≤ most
    → {told answer : Result ℕ Refusal} {after : List ℕ} → lined told after ≡ tell_line writes (mid_of start (length out - start) out) text → answer ≡ counted at told
    → lined answer (put_mid start (length out - start) out after) ≡ behind writes at out text
one_more writes at out text {start} starts inside small {told} {answer} {after} tells counted_is =
    let begins : line_start writes at ≤ length out = omega (arith, starts) in
    ap (λ (a : Result ℕ Refusal). lined a (put_mid start (length out - start) out after)) counted_is
    ∙ ap (λ (k : ℕ). lined (counted at told) (put_mid k (length out - k) out after)) starts
    ∙ told_behind writes at out text begins small (tells ∙ ap (λ (k : ℕ). tell_line writes (mid_of k (length out - k) out) text) starts)

-- no room for where it goes
pub no_more : (writes : Bool) (at : ℕ) (out text : List ℕ) {start : ℕ} → start ≡ line_start writes at → length out < start → lined (Err SaveBufferTooShort) out ≡ behind writes at out text
no_more writes at out text starts past = past_end writes at out text (omega (arith, starts))

-- the first line
pub first_line : (writes : Bool) (out text : List ℕ) → tell_line writes out text ≡ next writes (lined (Ok 0) out) text
unfolding tell_line next_text behind put_line measure_line sized
first_line true out text = let none : 0 + length text ≡ length text = omega arith in rw none
first_line false out text = let none : 0 + length text ≡ length text = omega arith in rw none

-- the buffer keeps its length
pub next_length : (writes : Bool) (so_far : Result ℕ Refusal) (out text : List ℕ) → length (next_text writes so_far out text).out ≡ length out
unfolding next_text behind
next_length true (Ok at) out text = by (leb (at + length text) (length out)) refl
  where
    by : (fits : Bool) → leb (at + length text) (length out) ≡ fits → length (behind true at out text).out ≡ length out
    by true test = ap (λ (l : Lined). length l.out) (behind_fits at out text (leb-true (at + length text) (length out) test)) ∙ length-sets out at text
    by false test = ap (λ (l : Lined). length l.out) (behind_over at out text (leb-false (at + length text) (length out) test))
next_length false (Ok at) out text = refl
next_length writes (Err refusal) out text = refl
