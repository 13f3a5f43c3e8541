-- Which opcode a byte is: one of docs/REFERENCE.md, 'Instruction set', or one that does nothing.
use Prim.Native.Nat.{ℕ, suc, ◌≤◌, ◌<◌}
use mathlib.Core.Path.{◌≡◌, refl, sym, subst}
use mathlib.Core.Bool.{false}
use mathlib.Core.List.{List}
use native.Mathlib.Omega.{arith}
use lib.Dec.{eqb}
use borrow.Author.Tests.{ne_eqb, eqb-true, eqb-false}
use Rattle.bytecode.specs.Opcodes.{PUSH_U32, PUSH_STATE, PUSH_CALLDATA, PUSH_TASK_FIELD, PUSH_MAX_STATES, T_CREATE, T_GET_FIELD, T_SET_FIELD, T_DELETE, S_SAVE, S_LEN, DO, LOOP, LOOP_INDEX, CALL, END_CALL, DROP, DUP, SWAP, EQ, NEQ, LT, GT, JUMP_IF_FALSE, M_STI, M_ST, M_MUTA, MULI, MUL}
use Rattle.mechanism.specs.Registers.{on_memory, moved}
use Rattle.mechanism.specs.declared.Registers.{Registers}
use Rattle.mechanism.specs.Execute.{plain, operated, is_equality, execute}
use Rattle.mechanism.specs.Steps.{is_outer}
use Rattle.labels.specs.declared.Element.TheVariants.{Kinds}
use Rattle.labels.specs.declared.Exchange.TheVariants.{Unchanged}
use Rattle.labels.specs.Elements.{moving_element, plain_element, whole_element}
use Rattle.safety.proofs.Rules.{on_bool}
use Rattle.std.specs.Prelude.{Ok}

-- a byte that does nothing and changes no kinds
pub record Unused (op : ℕ) : Type 0 where
  pub alone : eqb op PUSH_TASK_FIELD ≡ false
  pub inner : is_outer op ≡ false
  pub executes : (stack memory code : List ℕ) (registers : Registers) (next count : ℕ)
      → execute stack memory code registers next op count ≡ on_memory (Ok (moved registers next registers.height)) stack memory
  pub element_is : (code : List ℕ) (at : ℕ) → whole_element code at op ≡ Kinds Unchanged

pub data Opcode : ℕ → Type 0 where
  at_push_u32 : Opcode PUSH_U32
  at_push_state : Opcode PUSH_STATE
  at_push_calldata : Opcode PUSH_CALLDATA
  at_push_task_field : Opcode PUSH_TASK_FIELD
  at_push_max_states : Opcode PUSH_MAX_STATES
  at_t_create : Opcode T_CREATE
  at_t_get_field : Opcode T_GET_FIELD
  at_t_set_field : Opcode T_SET_FIELD
  at_t_delete : Opcode T_DELETE
  at_s_save : Opcode S_SAVE
  at_s_len : Opcode S_LEN
  at_do : Opcode DO
  at_loop : Opcode LOOP
  at_loop_index : Opcode LOOP_INDEX
  at_call : Opcode CALL
  at_end_call : Opcode END_CALL
  at_drop : Opcode DROP
  at_dup : Opcode DUP
  at_swap : Opcode SWAP
  at_eq : Opcode EQ
  at_neq : Opcode NEQ
  at_lt : Opcode LT
  at_gt : Opcode GT
  at_jump_if_false : Opcode JUMP_IF_FALSE
  at_m_sti : Opcode M_STI
  at_m_st : Opcode M_ST
  at_m_muta : Opcode M_MUTA
  at_muli : Opcode MULI
  at_mul : Opcode MUL
  at_unused : {op : ℕ} → Unused op → Opcode op

-- the bytes 00, 02 and S_LOAD
unused_00 : Unused 0
unfolding is_outer execute is_equality operated plain whole_element plain_element moving_element
unused_00 = record { alone = refl; inner = refl; executes = λ s m c r n k. refl; element_is = λ c a. refl }

unused_02 : Unused 2
unfolding is_outer execute is_equality operated plain whole_element plain_element moving_element
unused_02 = record { alone = refl; inner = refl; executes = λ s m c r n k. refl; element_is = λ c a. refl }

unused_0c : Unused 12
unfolding is_outer execute is_equality operated plain whole_element plain_element moving_element
unused_0c = record { alone = refl; inner = refl; executes = λ s m c r n k. refl; element_is = λ c a. refl }

-- the bytes from 20 on
module _ (op : ℕ) (past : 32 ≤ op) where
  other : (n : ℕ) → n < 32 → eqb op n ≡ false
  other n few = ne_eqb op n (λ e. omega arith)

  past_inner : is_outer op ≡ false
  unfolding is_outer
  past_inner = simp (other 4 (omega arith), other 7 (omega arith), other 8 (omega arith), other 9 (omega arith), other 10 (omega arith), other 11 (omega arith), other 17 (omega arith), other 18 (omega arith))

  past_executes : (stack memory code : List ℕ) (registers : Registers) (next count : ℕ)
      → execute stack memory code registers next op count ≡ on_memory (Ok (moved registers next registers.height)) stack memory
  unfolding execute is_equality operated plain
  past_executes stack memory code registers next count = simp (other 22 (omega arith), other 23 (omega arith), other 27 (omega arith), other 28 (omega arith), other 29 (omega arith), other 1 (omega arith), other 3 (omega arith), other 5 (omega arith), other 6 (omega arith), other 30 (omega arith), other 26 (omega arith), other 31 (omega arith), other 24 (omega arith), other 25 (omega arith), other 20 (omega arith), other 21 (omega arith), other 19 (omega arith), other 14 (omega arith), other 15 (omega arith), other 16 (omega arith), other 13 (omega arith))

  past_element : (code : List ℕ) (at : ℕ) → whole_element code at op ≡ Kinds Unchanged
  unfolding whole_element plain_element moving_element
  past_element code at = simp (other 1 (omega arith), other 3 (omega arith), other 6 (omega arith), other 5 (omega arith), other 4 (omega arith), other 30 (omega arith), other 27 (omega arith), other 28 (omega arith), other 26 (omega arith), other 13 (omega arith), other 31 (omega arith), other 7 (omega arith), other 10 (omega arith), other 22 (omega arith), other 23 (omega arith), other 24 (omega arith), other 25 (omega arith), other 29 (omega arith), other 14 (omega arith), other 15 (omega arith), other 16 (omega arith), other 20 (omega arith), other 21 (omega arith), other 19 (omega arith), other 17 (omega arith), other 8 (omega arith), other 9 (omega arith))

  unused_past : Unused op
  unused_past = record { alone = other 5 (omega arith); inner = past_inner; executes = past_executes; element_is = past_element }

-- a number from n on is n, or from n + 1 on
is_or : {A : Type 0} (op n : ℕ) → n ≤ op → (n ≡ op → A) → (suc n ≤ op → A) → A
is_or op n least is more = on_bool (eqb op n) (λ t. is (sym (eqb-true op n t))) (λ t. let apart = eqb-false op n t in more (past apart))
  where
    past : (op ≡ n → ⊥) → suc n ≤ op
    past apart = omega arith

pub opcode : (op : ℕ) → Opcode op
opcode op =
    is_or op 0 (omega arith) (λ e. subst Opcode e (at_unused unused_00)) λ from-1.
    is_or op 1 from-1 (λ e. subst Opcode e at_push_u32) λ from-2.
    is_or op 2 from-2 (λ e. subst Opcode e (at_unused unused_02)) λ from-3.
    is_or op 3 from-3 (λ e. subst Opcode e at_push_state) λ from-4.
    is_or op 4 from-4 (λ e. subst Opcode e at_push_calldata) λ from-5.
    is_or op 5 from-5 (λ e. subst Opcode e at_push_task_field) λ from-6.
    is_or op 6 from-6 (λ e. subst Opcode e at_push_max_states) λ from-7.
    is_or op 7 from-7 (λ e. subst Opcode e at_t_create) λ from-8.
    is_or op 8 from-8 (λ e. subst Opcode e at_t_get_field) λ from-9.
    is_or op 9 from-9 (λ e. subst Opcode e at_t_set_field) λ from-10.
    is_or op 10 from-10 (λ e. subst Opcode e at_t_delete) λ from-11.
    is_or op 11 from-11 (λ e. subst Opcode e at_s_save) λ from-12.
    is_or op 12 from-12 (λ e. subst Opcode e (at_unused unused_0c)) λ from-13.
    is_or op 13 from-13 (λ e. subst Opcode e at_s_len) λ from-14.
    is_or op 14 from-14 (λ e. subst Opcode e at_do) λ from-15.
    is_or op 15 from-15 (λ e. subst Opcode e at_loop) λ from-16.
    is_or op 16 from-16 (λ e. subst Opcode e at_loop_index) λ from-17.
    is_or op 17 from-17 (λ e. subst Opcode e at_call) λ from-18.
    is_or op 18 from-18 (λ e. subst Opcode e at_end_call) λ from-19.
    is_or op 19 from-19 (λ e. subst Opcode e at_drop) λ from-20.
    is_or op 20 from-20 (λ e. subst Opcode e at_dup) λ from-21.
    is_or op 21 from-21 (λ e. subst Opcode e at_swap) λ from-22.
    is_or op 22 from-22 (λ e. subst Opcode e at_eq) λ from-23.
    is_or op 23 from-23 (λ e. subst Opcode e at_neq) λ from-24.
    is_or op 24 from-24 (λ e. subst Opcode e at_lt) λ from-25.
    is_or op 25 from-25 (λ e. subst Opcode e at_gt) λ from-26.
    is_or op 26 from-26 (λ e. subst Opcode e at_jump_if_false) λ from-27.
    is_or op 27 from-27 (λ e. subst Opcode e at_m_sti) λ from-28.
    is_or op 28 from-28 (λ e. subst Opcode e at_m_st) λ from-29.
    is_or op 29 from-29 (λ e. subst Opcode e at_m_muta) λ from-30.
    is_or op 30 from-30 (λ e. subst Opcode e at_muli) λ from-31.
    is_or op 31 from-31 (λ e. subst Opcode e at_mul) λ from-32.
    at_unused (unused_past op from-32)
