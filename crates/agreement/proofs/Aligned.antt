-- The Rust's vectors of numbers start at multiples of 4: what a step and a run keep, and what a run returns.
use Prim.Native.Nat.{ℕ, zero, suc, ◌+◌, ◌*◌, ◌/◌, ◌%◌, ◌^◌, ◌<◌}
use mathlib.Core.Bool.{Bool, true, false, cond, ◌&&◌, ◌||◌, not, true≢false}
use mathlib.Core.Path.{◌≡◌, refl, sym, ap, subst, ◌∙◌}
use mathlib.Core.List.{List, [], ◌∷◌}
use mathlib.Core.Option.{Option, none, some}
use native.Mathlib.Omega.{arith}
use lib.Dec.{eqb, ltb, leb}
use lib.ListN.{length, get_or, take}
use lib.ListN as list
use lib.Seq.{sets}
use borrow.Author.Tests.{eqb-true, ltb-true}
use Rattle.bytecode.specs.Opcodes.{PUSH_U32, PUSH_STATE, PUSH_CALLDATA, PUSH_TASK_FIELD, PUSH_MAX_STATES, T_CREATE, T_GET_FIELD, T_SET_FIELD, T_DELETE, S_SAVE, S_LEN, DO, LOOP, LOOP_INDEX, CALL, END_CALL, DROP, DUP, SWAP, EQ, NEQ, LT, GT, JUMP_IF_FALSE, M_STI, M_ST, M_MUTA, MULI, MUL}
use Rattle.bytecode.specs.Operands.{big_endian}
use Rattle.slices.specs.Same.{same}
use Rattle.utf8.specs.Utf8.{valid}
use Rattle.slices.specs.Numbers.{little_endian}
use Rattle.values.specs.Values.{is_vec, is_qnan, is_u32_val, to_u32, raw_tag, fat_pointer, make_scalar_tagged, make_vec_tagged, to_u32_val, to_bool_val, bool_not}
use Rattle.values.specs.declared.FatPointer.{FatPointer}
use Rattle.values.proofs.Laws.{vec_tag_back, pointer_back, bool_turned}
use Rattle.laws.proofs.Values.{boxed_no_vec}
use Rattle.rust.specs.Errors.{VMError, MSliceOutOfBounds, Out, ok, err, panic}
use Rattle.rust.specs.InlineVec.{push, pop, last}
use Rattle.rust.specs.Values as values
use Rattle.rust.specs.Helpers.{byte, slice, prepare_u32_from_be_checked, prepare_u16_from_be_checked}
use Rattle.rust.specs.Memory as memory
use Rattle.rust.specs.Instructions as pool
use Rattle.rust.specs.TaskTypes.{TaskState, TaskVM, TaskField, Title, State, Instructions, default, set_state, try_from, to_task}
use Rattle.rust.specs.Storage as storage
use Rattle.rust.specs.Vm as rust
use Rattle.rust.specs.Vm.{VM, at}
use Rattle.rust.specs.Run.{Ran, returned, running, failed, panicked, onward, finish, finished, while, begin, run}
use Rattle.agreement.specs.Reads.{Aligned}

-- each value of a stack is aligned
pub data Lined : List ℕ → Type 0 where
  empty : Lined []
  above : {value : ℕ} {others : List ℕ} → Aligned value → Lined others → Lined (value ∷ others)

-- an answer that keeps it
pub data Kept : Out VM → Type 0 where
  goes : (vm : VM) → Lined vm.stack → Kept (ok vm)
  errs : {error : VMError} → Kept (err error)
  panics : Kept panic

-- ---- values

no_vec : (value : ℕ) → is_vec value ≡ false → Aligned value
no_vec value none_there is = absurd (true≢false (sym is ∙ none_there))

scalar : (tag payload : ℕ) → Aligned (make_scalar_tagged tag payload)
scalar tag payload = no_vec (make_scalar_tagged tag payload) (boxed_no_vec tag payload)

truth : (b : Bool) → Aligned (to_bool_val b)
unfolding to_bool_val
truth true = scalar 3 0
truth false = scalar 2 0

untruth : (b : Bool) → Aligned (bool_not (to_bool_val b))
untruth b = subst Aligned (sym (bool_turned b)) (truth (not b))

-- a size is boxed by its 16 bits
sized : (offset size tag : ℕ) → make_vec_tagged offset size tag ≡ make_vec_tagged offset (size % 2 ^ 16) tag
unfolding make_vec_tagged
sized offset size tag = let z : size % 2 ^ 16 % 2 ^ 16 ≡ size % 2 ^ 16 = omega arith in rw z

offset_back : (offset size tag : ℕ) → offset < 2 ^ 25 → (fat_pointer (make_vec_tagged offset size tag)).offset ≡ offset
offset_back offset size tag less =
    ap (λ (v : ℕ). (fat_pointer v).offset) (sized offset size tag) ∙ ap (λ (p : FatPointer). p.offset) (pointer_back offset (size % 2 ^ 16) tag less (omega arith))

four_times : (n : ℕ) → (n + 3) / 4 * 4 % 4 ≡ 0
four_times n = omega arith

vector : (l : List ℕ) (size tag : ℕ) → (eqb tag 4 || eqb tag 6) ≡ true → memory.offset_aligned l tag < 2 ^ 25 → Aligned (make_vec_tagged (memory.offset_aligned l tag) size tag)
unfolding memory.offset_aligned
vector l size tag known small is six = by (eqb tag 4) (eqb tag 6) refl refl known
  where
    by : (a b : Bool) → eqb tag 4 ≡ a → eqb tag 6 ≡ b → (a || b) ≡ true → (fat_pointer (make_vec_tagged (memory.offset_aligned l tag) size tag)).offset % 4 ≡ 0
    by a true e f g = rw (offset_back (memory.offset_aligned l tag) size tag small, f) (four_times (length l))
    by true false e f g =
        let four : tag ≡ 4 = eqb-true _ _ e in
        let back : raw_tag (make_vec_tagged (memory.offset_aligned l tag) size tag) ≡ tag = vec_tag_back (memory.offset_aligned l tag) size tag (omega arith) in
        absurd (let z : ◌≡◌ {A = ℕ} 4 6 = sym four ∙ sym back ∙ six in omega arith)
    by false false e f g = absurd (true≢false (sym g))

-- ---- calls

test : (b : Bool) {o p : Out VM} → (b ≡ true → Kept o) → (b ≡ false → Kept p) → Kept (cond b o p)
test true f g = f refl
test false f g = g refl

popped : {s : List ℕ} (k : ℕ → List ℕ → Out VM) → Lined s → ((value : ℕ) (others : List ℕ) → Aligned value → Lined others → Kept (k value others)) → Kept (pop s k)
unfolding pop
popped k empty f = errs
popped k (above a more) f = f _ _ a more

seen : {s : List ℕ} (k : ℕ → Out VM) → Lined s → ((value : ℕ) → Aligned value → Kept (k value)) → Kept (last s k)
unfolding last
seen k empty f = errs
seen k (above a more) f = f _ a

pushed : (s : List ℕ) (n value : ℕ) (k : List ℕ → Out VM) → Lined s → Aligned value → ((after : List ℕ) → Lined after → Kept (k after)) → Kept (push n s value k)
unfolding push
pushed s n value k lined a f = test (ltb (length s) n) (λ t. f (value ∷ s) (above a lined)) (λ t. errs)

others_popped : {A : Type 0} (l : List A) (k : A → List A → Out VM) → ((a : A) (more : List A) → Kept (k a more)) → Kept (pop l k)
unfolding pop
others_popped [] k f = errs
others_popped (a ∷ l) k f = f a l

others_seen : {A : Type 0} (l : List A) (k : A → Out VM) → ((a : A) → Kept (k a)) → Kept (last l k)
unfolding last
others_seen [] k f = errs
others_seen (a ∷ l) k f = f a

others_pushed : {A : Type 0} (n : ℕ) (l : List A) (a : A) (k : List A → Out VM) → ((more : List A) → Kept (k more)) → Kept (push n l a k)
unfolding push
others_pushed n l a k f = test (ltb (length l) n) (λ t. f (a ∷ l)) (λ t. errs)

a_byte : (bytes : List ℕ) (at : ℕ) (k : ℕ → Out VM) → ((v : ℕ) → Kept (k v)) → Kept (byte bytes at k)
unfolding byte
a_byte bytes at k f = test (leb (at + 1) (length bytes)) (λ t. f (get_or bytes at 0)) (λ t. panics)

a_slice : (bytes : List ℕ) (at size : ℕ) (k : List ℕ → Out VM) → ((l : List ℕ) → Kept (k l)) → Kept (slice bytes at size k)
unfolding slice
a_slice bytes at size k f = test (leb (at + size) (length bytes)) (λ t. f (take size (list.drop at bytes))) (λ t. panics)

a_u32 : (bytes : List ℕ) (at : ℕ) (k : ℕ → Out VM) → ((v : ℕ) → Kept (k v)) → Kept (prepare_u32_from_be_checked bytes at k)
unfolding prepare_u32_from_be_checked
a_u32 bytes at k f = test (leb (at + 4) (length bytes)) (λ t. f (big_endian 4 bytes at)) (λ t. panics)

a_u16 : (bytes : List ℕ) (at : ℕ) (k : ℕ → Out VM) → ((v : ℕ) → Kept (k v)) → Kept (prepare_u16_from_be_checked bytes at k)
unfolding prepare_u16_from_be_checked
a_u16 bytes at k f = test (leb (at + 2) (length bytes)) (λ t. f (big_endian 2 bytes at)) (λ t. panics)

a_pointer : (v : ℕ) (k : FatPointer → Out VM) → ((pointer : FatPointer) → Kept (k pointer)) → Kept (values.to_fat_pointer v k)
unfolding values.to_fat_pointer
a_pointer v k f = test (is_vec v) (λ t. f (fat_pointer v)) (λ t. errs)

a_tag : (v : ℕ) (k : ℕ → Out VM) → ((tag : ℕ) → Kept (k tag)) → Kept (values.tag v k)
unfolding values.tag
a_tag v k f = test (is_qnan v) (λ t. f (raw_tag v)) (λ t. errs)

a_part : (l : List ℕ) (pointer : FatPointer) (k : List ℕ → Out VM) → ((bytes : List ℕ) → Kept (k bytes)) → Kept (memory.get_slice_bytes l pointer k)
unfolding memory.get_slice_bytes
a_part l pointer k f = a_slice l pointer.offset pointer.size k f

an_entry : (entries : List (List ℕ)) (index : ℕ) (k : List ℕ → Out VM) → ((code : List ℕ) → Kept (k code)) → Kept (pool.get entries index k)
unfolding pool.get
an_entry entries index k f = test (ltb index (length entries)) (λ t. f (get_or entries index [])) (λ t. errs)

a_state : (len : ℕ) (k : TaskState → Out VM) → ((state : TaskState) → Kept (k state)) → Kept (default len k)
unfolding default
a_state len k f = test (eqb len 0) (λ t. errs) (λ t. f (record { len = len; state = 0 }))

a_change : (state : TaskState) (v : ℕ) (k : TaskState → Out VM) → ((state : TaskState) → Kept (k state)) → Kept (set_state state v k)
unfolding set_state
a_change state v k f = test (leb state.len v || leb 255 v) (λ t. errs) (λ t. f (record { len = state.len; state = v }))

a_field : (v : ℕ) (k : TaskField → Out VM) → ((field : TaskField) → Kept (k field)) → Kept (try_from v k)
unfolding try_from
a_field v k f = test (eqb v 0) (λ t. f Title) (λ t. test (eqb v 1) (λ t. f State) (λ t. test (eqb v 2) (λ t. f Instructions) (λ t. errs)))

a_task : (o : Option TaskVM) {k : TaskVM → Out VM} {missing : Out VM} → ((task : TaskVM) → Kept (k task)) → Kept missing → Kept (storage.if_some o k missing)
a_task none f g = g
a_task (some task) f g = f task

pushes : (vm : VM) (pc : ℕ) (stack : List ℕ) (value : ℕ) → Lined stack → Aligned value → Kept (rust.pushes vm pc stack value)
unfolding rust.pushes
pushes vm pc stack value lined a = pushed stack 1000 value _ lined a (λ after more. goes (rust.at vm pc after) more)

allocs : (vm : VM) (pc : ℕ) (stack : List ℕ) (size tag : ℕ) (payload : List ℕ) → Lined stack → Kept (rust.allocs vm pc stack size tag payload)
unfolding rust.allocs memory.alloc memory.boxed values.to_vec_val
allocs vm pc stack size tag payload lined =
    test (eqb (length payload) 0 || eqb (length payload) size)
    (λ t. test (eqb tag 4 || eqb tag 6)
    (λ known. test (ltb (memory.offset_aligned vm.memory tag) (2 ^ 25))
    (λ small. pushed stack 1000 _ _ lined (vector vm.memory size tag known (ltb-true _ _ small)) (λ after more. goes _ more))
    (λ u. errs))
    (λ u. errs))
    (λ t. panics)

product : (l r : ℕ) (k : ℕ → Out VM) → ((v : ℕ) → Aligned v → Kept (k v)) → Kept (values.product l r k)
unfolding values.product
product l r k f = test (ltb (l * r) (2 ^ 32)) (λ t. f (to_u32_val (l * r)) (scalar 6 (l * r))) (λ t. errs)

compared : (left right : ℕ) (is_lt : Bool) (k : ℕ → Out VM) → ((v : ℕ) → Aligned v → Kept (k v)) → Kept (values.value_cmp left right is_lt k)
unfolding values.value_cmp
compared left right is_lt k f =
    test (is_u32_val left && is_u32_val right)
    (λ t. f (to_bool_val (cond is_lt (ltb (to_u32 left) (to_u32 right)) (ltb (to_u32 right) (to_u32 left)))) (truth (cond is_lt (ltb (to_u32 left) (to_u32 right)) (ltb (to_u32 right) (to_u32 left)))))
    (λ t. errs)

alike : (tag left right : ℕ) (k : ℕ → Out VM) → ((b : Bool) → Kept (k (to_bool_val b))) → Kept (values.alike tag left right k)
unfolding values.alike
alike tag left right k f =
    test (eqb tag 6 || eqb tag 5) (λ t. f (eqb (to_u32 left) (to_u32 right))) (λ t. test (eqb tag 3 || eqb tag 2) (λ t. f (eqb left right)) (λ t. errs))

equal : (left right : ℕ) (k : ℕ → Out VM) → ((b : Bool) → Kept (k (to_bool_val b))) → Kept (values.value_eq left right k)
unfolding values.value_eq
equal left right k f =
    a_tag left _ (λ tag-left. a_tag right _ (λ tag-right. test (eqb tag-left tag-right) (λ t. alike tag-left left right k f) (λ t. errs)))

slices_equal : (l : List ℕ) (a b : FatPointer) (k : ℕ → Out VM) → ((c : Bool) → Kept (k (to_bool_val c))) → Kept (memory.is_m_slice_eq l a b k)
unfolding memory.is_m_slice_eq
slices_equal l a b k f =
    test (eqb a.size b.size)
    (λ t. test (eqb a.offset b.offset) (λ t. f true) (λ t. a_part l a _ (λ x. a_part l b _ (λ y. f (same x y)))))
    (λ t. f false)

saved : (entries : List (List ℕ)) (tasks : List (Option TaskVM)) (o : Out VM) → Kept o → Kept (storage.to_tasks entries tasks λ ts. o)
unfolding storage.to_tasks to_task
saved entries [] o k = k
saved entries (none ∷ tasks) o k = saved entries tasks o k
saved entries (some task ∷ tasks) o k = an_entry entries task.instructions_ref _ (λ code. test (valid task.title) (λ t. saved entries tasks o k) (λ t. errs))

-- ---- the arms

module _ (c : List ℕ) (pc : ℕ) (vm : VM) (lined : Lined vm.stack) where
  push_u32 : Kept (rust.push_u32 c pc vm)
  unfolding rust.push_u32
  push_u32 = a_u32 c pc _ (λ val. pushes vm (pc + 4) vm.stack _ lined (scalar 6 val))

  push_calldata : Kept (rust.push_calldata c pc vm)
  unfolding rust.push_calldata pool.intern_instructions
  push_calldata = a_u16 c pc _ (λ size. a_slice c (pc + 2) size _ (λ data-bytes. pushed vm.stack 1000 _ _ lined (scalar 5 (length vm.instructions_pool)) (λ after more. goes _ more)))

  push_state : Kept (rust.push_state c pc vm)
  unfolding rust.push_state
  push_state = a_byte c pc _ (λ val. pushes vm (pc + 1) vm.stack _ lined (scalar 6 val))

  mul : Kept (rust.mul pc vm)
  unfolding rust.mul values.mul_checked
  mul =
      popped _ lined (λ lhs s a m. popped _ m (λ rhs s₂ b n.
      test (is_u32_val lhs && is_u32_val rhs) (λ t. product (to_u32 lhs) (to_u32 rhs) _ (λ v d. pushes vm pc s₂ v n d)) (λ t. errs)))

  muli : Kept (rust.muli c pc vm)
  unfolding rust.muli values.mul_checked_i
  muli =
      popped _ lined (λ lhs s a m. a_u32 c pc _ (λ rhs.
      test (is_u32_val lhs) (λ t. product (to_u32 lhs) rhs _ (λ v d. pushes vm (pc + 4) s v m d)) (λ t. errs)))

  t_create : Kept (rust.t_create pc vm)
  unfolding rust.t_create
  t_create =
      popped _ lined (λ reference s a m. popped _ m (λ count s₂ b n. a_state _ _ (λ state. popped _ n (λ title s₃ d o. a_pointer title _ (λ pointer. a_part vm.memory pointer _ (λ bytes. goes _ o))))))

  get_field : (stack : List ℕ) → Lined stack → (task : TaskVM) (field : TaskField) → Kept (rust.get_field pc vm stack task field)
  unfolding rust.get_field
  get_field stack m task Title = allocs vm pc stack _ 4 task.title m
  get_field stack m task State = pushes vm pc stack _ m (scalar 6 task.state.state)
  get_field stack m task Instructions = pushes vm pc stack _ m (scalar 5 task.instructions_ref)

  t_get_field : Kept (rust.t_get_field pc vm)
  unfolding rust.t_get_field
  t_get_field = popped _ lined (λ f s a m. a_field _ _ (λ field. popped _ m (λ id s₂ b n. a_task (storage.get vm.storage (to_u32 id)) (λ task. get_field s₂ n task field) errs)))

  set_field : (stack : List ℕ) → Lined stack → (task : TaskVM) (field : TaskField) (k : TaskVM → List ℕ → Out VM) → ((task : TaskVM) (s : List ℕ) → Lined s → Kept (k task s)) → Kept (rust.set_field vm stack task field k)
  unfolding rust.set_field
  set_field stack m task Title k f = popped _ m (λ v s a n. a_pointer v _ (λ pointer. a_part vm.memory pointer _ (λ bytes. f _ s n)))
  set_field stack m task State k f = popped _ m (λ v s a n. a_change task.state _ _ (λ state. f _ s n))
  set_field stack m task Instructions k f = popped _ m (λ v s a n. f _ s n)

  t_set_field : Kept (rust.t_set_field pc vm)
  unfolding rust.t_set_field
  t_set_field = popped _ lined (λ f s a m. a_field _ _ (λ field. popped _ m (λ id s₂ b n. a_task (storage.get vm.storage (to_u32 id)) (λ task. set_field s₂ n task field _ (λ after s₃ o. goes _ o)) errs)))

  t_delete : Kept (rust.t_delete pc vm)
  unfolding rust.t_delete storage.delete
  t_delete = popped _ lined (λ id s a m. a_task (storage.get vm.storage (to_u32 id)) (λ task. goes _ m) errs)

  s_save : Kept (rust.s_save pc vm)
  unfolding rust.s_save storage.save
  s_save = saved vm.instructions_pool vm.storage.tasks_vm _ (goes _ lined)

  s_len : Kept (rust.s_len pc vm)
  unfolding rust.s_len
  s_len = pushes vm pc vm.stack _ lined (scalar 6 (storage.len vm.storage))

  do_op : Kept (rust.«do» pc vm)
  unfolding rust.«do»
  do_op = popped _ lined (λ i s a m. popped _ m (λ l s₂ b n. others_pushed 2 vm.control_stack _ _ (λ control. goes _ n)))

  loop : Kept (rust.loop pc vm)
  unfolding rust.loop
  loop =
      others_popped vm.control_stack _ (λ innermost others.
      test (ltb (innermost.index + 1) innermost.limit) (λ t. others_pushed 2 others _ _ (λ control. goes _ lined)) (λ t. goes _ lined))

  loop_index : Kept (rust.loop_index pc vm)
  unfolding rust.loop_index
  loop_index = others_seen vm.control_stack _ (λ l. pushes vm pc vm.stack _ lined (scalar 6 l.index))

  jump_if_false : Kept (rust.jump_if_false c pc vm)
  unfolding rust.jump_if_false
  jump_if_false = popped _ lined (λ v s a m. test (eqb v (to_bool_val false)) (λ t. a_u32 c pc _ (λ val. goes _ m)) (λ t. goes _ m))

  dup : Kept (rust.dup pc vm)
  unfolding rust.dup
  dup = seen _ lined (λ v a. pushes vm pc vm.stack v lined a)

  swap : Kept (rust.swap pc vm)
  unfolding rust.swap
  swap = popped _ lined (λ b s a m. popped _ m (λ d s₂ e n. pushed s₂ 1000 b _ n a (λ after o. pushes vm pc after d o e)))

  eq : Kept (rust.eq pc vm)
  unfolding rust.eq
  eq =
      popped _ lined (λ right s a m. popped _ m (λ left s₂ b n. a_tag left _ (λ tag-left. a_tag right _ (λ tag-right.
      test (eqb tag-left tag-right)
      (λ t. test (is_vec left)
      (λ t. a_pointer left _ (λ l. a_pointer right _ (λ r. slices_equal vm.memory l r _ (λ q. pushes vm pc s₂ _ n (truth q)))))
      (λ t. equal left right _ (λ q. pushes vm pc s₂ _ n (truth q))))
      (λ t. errs)))))

  neq : Kept (rust.neq pc vm)
  unfolding rust.neq values.value_neq
  neq =
      popped _ lined (λ right s a m. popped _ m (λ left s₂ b n. a_tag left _ (λ tag-left. a_tag right _ (λ tag-right.
      test (eqb tag-left tag-right)
      (λ t. test (is_vec left)
      (λ t. a_pointer left _ (λ l. a_pointer right _ (λ r. slices_equal vm.memory l r _ (λ q. pushes vm pc s₂ _ n (untruth q)))))
      (λ t. equal left right _ (λ q. pushes vm pc s₂ _ n (untruth q))))
      (λ t. errs)))))

  compare : (is_lt : Bool) → Kept (rust.compare is_lt pc vm)
  unfolding rust.compare
  compare is_lt = popped _ lined (λ right s a m. popped _ m (λ left s₂ b n. compared left right is_lt _ (λ v d. pushes vm pc s₂ v n d)))

  m_sti : Kept (rust.m_sti c pc vm)
  unfolding rust.m_sti
  m_sti =
      a_u16 c pc _ (λ size. a_byte c (pc + 2) _ (λ tag. a_byte c (pc + 3) _ (λ signal.
      test (eqb signal 1) (λ t. a_slice c (pc + 4) size _ (λ payload. allocs vm _ vm.stack size tag payload lined)) (λ t. allocs vm _ vm.stack size tag [] lined))))

  m_st : Kept (rust.m_st c pc vm)
  unfolding rust.m_st
  m_st = popped _ lined (λ size s a m. test (ltb 65535 (to_u32 size)) (λ t. errs) (λ t. a_byte c pc _ (λ tag. allocs vm _ s (to_u32 size) tag [] m)))

  m_muta : Kept (rust.m_muta pc vm)
  unfolding rust.m_muta memory.mut_vec memory.element_size_bytes
  m_muta =
      popped _ lined (λ payload s a m. popped _ m (λ index s₂ b n. seen _ n (λ value d. a_pointer value _ (λ pointer. a_tag value _ (λ tag.
      test (eqb tag 4) (λ t. one_element 1 pointer (to_u32 index) (to_u32 payload) s₂ n)
      (λ t. test (eqb tag 6) (λ t. one_element 4 pointer (to_u32 index) (to_u32 payload) s₂ n) (λ t. errs)))))))
    where
      one_element : (width : ℕ) (pointer : FatPointer) (index payload : ℕ) (stack : List ℕ) → Lined stack
          → Kept
          (cond (leb (pointer.size / width) index) (err (MSliceOutOfBounds (index * width % 2 ^ 32) pointer.size))
          (cond (leb (pointer.offset + index * width + width) (length vm.memory))
          (ok (rust.with_memory (rust.at vm pc stack) (sets vm.memory (pointer.offset + index * width) (take width (little_endian 4 payload))))) panic))
      one_element width pointer index payload stack n =
          test (leb (pointer.size / width) index) (λ t. errs) (λ t. test (leb (pointer.offset + index * width + width) (length vm.memory)) (λ t. goes _ n) (λ t. panics))

  drop : Kept (rust.drop pc vm)
  unfolding rust.drop
  drop = popped _ lined (λ v s a m. goes _ m)

  call : Kept (rust.call pc vm)
  unfolding rust.call rust.enters
  call =
      popped _ lined (λ id s a m. a_task (storage.get vm.storage (to_u32 id)) (λ task. an_entry vm.instructions_pool task.instructions_ref _ (λ code.
      test (eqb (length code) 0) (λ t. goes _ m) (λ t. others_pushed 2 _ _ _ (λ frames. goes _ m)))) (goes _ m))

  end_call : Kept (rust.end_call pc vm)
  unfolding rust.end_call
  end_call =
      test (ltb 1 (length vm.call_stack))
      (λ t. others_popped vm.call_stack _ (λ ended frames. others_seen frames _ (λ frame. an_entry vm.instructions_pool frame.instructions_ref _ (λ code. goes _ lined))))
      (λ t. goes _ lined)

  -- whatever the opcode
  exec : (op : ℕ) → Kept (rust.exec op c pc vm)
  unfolding rust.exec
  exec op =
      test (eqb op PUSH_U32) (λ t. push_u32) (λ t.
      test (eqb op PUSH_CALLDATA) (λ t. push_calldata) (λ t.
      test (eqb op PUSH_STATE || eqb op PUSH_MAX_STATES || eqb op PUSH_TASK_FIELD) (λ t. push_state) (λ t.
      test (eqb op MUL) (λ t. mul) (λ t.
      test (eqb op MULI) (λ t. muli) (λ t.
      test (eqb op T_CREATE) (λ t. t_create) (λ t.
      test (eqb op T_GET_FIELD) (λ t. t_get_field) (λ t.
      test (eqb op T_SET_FIELD) (λ t. t_set_field) (λ t.
      test (eqb op T_DELETE) (λ t. t_delete) (λ t.
      test (eqb op S_SAVE) (λ t. s_save) (λ t.
      test (eqb op S_LEN) (λ t. s_len) (λ t.
      test (eqb op DO) (λ t. do_op) (λ t.
      test (eqb op LOOP) (λ t. loop) (λ t.
      test (eqb op LOOP_INDEX) (λ t. loop_index) (λ t.
      test (eqb op JUMP_IF_FALSE) (λ t. jump_if_false) (λ t.
      test (eqb op DUP) (λ t. dup) (λ t.
      test (eqb op SWAP) (λ t. swap) (λ t.
      test (eqb op EQ) (λ t. eq) (λ t.
      test (eqb op NEQ) (λ t. neq) (λ t.
      test (eqb op LT) (λ t. compare true) (λ t.
      test (eqb op GT) (λ t. compare false) (λ t.
      test (eqb op M_STI) (λ t. m_sti) (λ t.
      test (eqb op M_ST) (λ t. m_st) (λ t.
      test (eqb op M_MUTA) (λ t. m_muta) (λ t.
      test (eqb op DROP) (λ t. drop) (λ t.
      test (eqb op CALL) (λ t. call) (λ t.
      test (eqb op END_CALL) (λ t. end_call) (λ t.
      goes _ lined)))))))))))))))))))))))))))

step : (vm : VM) → Lined vm.stack → Kept (rust.step vm)
unfolding rust.step
step vm lined = exec (rust.instructions vm) (vm.pc + 1) vm lined (get_or (rust.instructions vm) vm.pc 0)

-- ---- a run

-- what a run returns, and what it goes on with, is aligned
pub data Given : Ran → Type 0 where
  given : (values : List ℕ) (vm : VM) → Lined values → Given (returned values vm)
  not_yet : (vm : VM) → Lined vm.stack → Given (running vm)
  not_at_all : (error : VMError) (before : VM) → Given (failed error before)
  never : Given panicked

onwards : (turn : VM → Ran) (before : VM) → ((vm : VM) → Lined vm.stack → Given (turn vm)) → (o : Out VM) → Kept o → Given (onward turn before o)
unfolding onward
onwards turn before f _ (goes vm lined) = f vm lined
onwards turn before f _ (errs {error}) = not_at_all error before
onwards turn before f _ panics = never

finish_kept : (vm : VM) → Lined vm.stack → Kept (finish vm)
unfolding finish
finish_kept vm lined = others_seen vm.call_stack _ (λ frame. goes _ lined)

finished_given : (vm : VM) → Lined vm.stack → Given (finished vm)
unfolding finished
finished_given vm lined = onwards (λ after. returned after.stack (rust.at after 0 [])) vm (λ after more. given _ _ more) (finish vm) (finish_kept vm lined)

choose : (b : Bool) {x y : Ran} → Given x → Given y → Given (cond b x y)
choose true p q = p
choose false p q = q

-- a loop that goes on with an aligned stack
pub while_given : (turns : ℕ) (vm : VM) → Lined vm.stack → Given (while turns vm)
unfolding while
while_given zero vm lined = choose (ltb vm.pc (length (rust.instructions vm))) (not_yet vm lined) (finished_given vm lined)
while_given (suc turns) vm lined =
    choose (ltb vm.pc (length (rust.instructions vm))) (onwards (while turns) vm (λ after more. while_given turns after more) (rust.step vm) (step vm lined)) (finished_given vm lined)

begin_kept : (vm : VM) → Lined vm.stack → Kept (begin vm)
unfolding begin
begin_kept vm lined = others_seen vm.call_stack _ (λ frame. an_entry vm.instructions_pool frame.instructions_ref _ (λ code. goes _ lined))

-- a run that begins with an empty stack
pub run_given : (turns : ℕ) (vm : VM) → vm.stack ≡ [] → Given (run turns vm)
unfolding run
run_given turns vm none_there = onwards (while turns) vm (while_given turns) (begin vm) (begin_kept vm (subst Lined (sym none_there) empty))
