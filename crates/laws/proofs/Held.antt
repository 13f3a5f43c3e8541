-- No two tasks of a machine, loaded or created, have one id; and S_LEN is the greatest id held since creation plus 1.
use Prim.Native.Nat.{ℕ, zero, suc, ◌+◌, ◌≤◌, ◌<◌, max}
use mathlib.Core.Bool.{Bool, true, false, cond}
use mathlib.Core.List.{List, [], ◌∷◌, ◌++◌, map}
use mathlib.Core.Path.{◌≡◌, refl, sym, ap, subst}
use native.Mathlib.Omega.{arith}
use lib.Dec.{eqb}
use lib.ListN.{length, get_or}
use Rattle.bytecode.specs.Opcodes.{T_CREATE}
use Rattle.image.specs.Image.{ImageTask, Image, Parsed, read_image}
use Rattle.image.specs.Reading.{s_len_of}
use Rattle.machine.specs.World.{World, op}
use Rattle.machine.specs.Words.{next}
use Rattle.machine.specs.Step.{step}
use Rattle.machine.specs.History.{FreshWorld, HostCall, history}
use Rattle.laws.specs.Sound.{Passes}
use Rattle.laws.specs.Counted.{creates}
use Rattle.laws.specs.Held.{loaded_ids, given_ids, held_ids, past_greatest, Held}
use Rattle.laws.proofs.Frames.{Given}
use Rattle.laws.proofs.Step.{step_given}
use Rattle.laws.proofs.Along.{Beside, along_history}
use Rattle.laws.proofs.Loading.{Orderly, none, more, s_len_below}
use Rattle.laws.proofs.Creation.{Begins, fresh_passes, fresh_ids}

-- ---- rising lists

-- each above the one before it, from a number on and below another
data Rising : ℕ → List ℕ → ℕ → Type 0 where
  ends : {low high : ℕ} → low ≤ high → Rising low [] high
  goes : {low high id : ℕ} {ids : List ℕ} → low ≤ id → Rising (id + 1) ids high → Rising low (id ∷ ids) high

-- the numbers grow
grows : {low high : ℕ} {ids : List ℕ} → Rising low ids high → low ≤ high
grows (ends e) = e
grows (goes l rest) = let n = grows rest in omega (arith, l, n)

joined : {low middle high : ℕ} {first second : List ℕ} → Rising low first middle → Rising middle second high → Rising low (first ++ second) high
joined {low = low} {high = high} (ends l) (ends r) = ends {low = low} {high = high} (omega (arith, l, r))
joined {low = low} (ends l) (goes {id = id} r rest) = goes {low = low} {id = id} (omega (arith, l, r)) rest
joined (goes l rest) behind = goes l (joined rest behind)

-- each is at least the first number, and below the last
at_least : {low high : ℕ} {ids : List ℕ} → Rising low ids high → (i : ℕ) → i < length ids → low ≤ get_or ids i 0
at_least (ends e) i less = absurd (omega arith)
at_least (goes l rest) zero less = l
at_least (goes l rest) (suc i) less = let n = at_least rest i (omega arith) in omega (arith, l, n)

all_below : {low high : ℕ} {ids : List ℕ} → Rising low ids high → (i : ℕ) → i < length ids → get_or ids i 0 < high
all_below (ends e) i less = absurd (omega arith)
all_below (goes l rest) zero less = let n = grows rest in omega (arith, n)
all_below (goes l rest) (suc i) less = all_below rest i (omega arith)

each_above : {low high : ℕ} {ids : List ℕ} → Rising low ids high → (i j : ℕ) → i < j → j < length ids → get_or ids i 0 < get_or ids j 0
each_above (ends e) i j less there = absurd (omega arith)
each_above (goes l rest) i zero less there = absurd (omega arith)
each_above (goes l rest) zero (suc j) less there = let n = at_least rest j (omega arith) in omega (arith, n)
each_above (goes l rest) (suc i) (suc j) less there = each_above rest i j (omega arith) (omega arith)

-- ---- ids given out

-- ids that lead from a next id and an S_LEN count to others: each is the next id, and moves it on by one
data Climbs : ℕ → ℕ → List ℕ → ℕ → ℕ → Type 0 where
  stays : {id count : ℕ} → Climbs id count [] id count
  gives : {id count last final : ℕ} {ids : List ℕ} → Climbs (id + 1) (id + 1) ids last final → Climbs id count (id ∷ ids) last final

abbrev Along : World → List World → World → Type 0
Along w finished v = Climbs w.machine.next_id.0 w.machine.count (given_ids finished) v.machine.next_id.0 v.machine.count

same : (id count last final : ℕ) → last ≡ id → final ≡ count → Climbs id count [] last final
same id count last final a b = subst (λ (n : ℕ). Climbs id count [] n final) (sym a) (subst (λ (n : ℕ). Climbs id count [] id n) (sym b) stays)

one_given : (id count last final : ℕ) → last ≡ id + 1 → final ≡ id + 1 → Climbs id count (id ∷ []) last final
one_given id count last final a b = gives (same (id + 1) (id + 1) last final a b)

beside : (w v : World) → Beside w v → Along w [] v
unfolding given_ids
beside w v b = same _ _ _ _ b.ids.next_id b.ids.count

one_by : (w v : World) (b : Bool) → Given (cond b 1 0) w.machine v.machine
    → Climbs w.machine.next_id.0 w.machine.count (cond b (w.machine.next_id.0 ∷ []) []) v.machine.next_id.0 v.machine.count
one_by w v true g = one_given _ _ _ _ g.next_id (g.one refl)
one_by w v false g = same _ _ _ _ (let n = g.next_id in omega (arith, n)) (g.none refl)

one : (w v : World) → Passes w → step w ≡ next v → Along w (w ∷ []) v
unfolding given_ids creates
one w v passes s = one_by w v (eqb (op w) T_CREATE) (step_given w v passes s)

climbs_on : {id count middle mark last final : ℕ} {first second : List ℕ} → Climbs id count first middle mark → Climbs middle mark second last final → Climbs id count (first ++ second) last final
climbs_on stays behind = behind
climbs_on (gives rest) behind = gives (climbs_on rest behind)

given_by : (b : Bool) (id : ℕ) (first second joined : List ℕ) → joined ≡ first ++ second → cond b (id ∷ joined) joined ≡ cond b (id ∷ first) first ++ second
given_by true id first second joined e = ap (λ (l : List ℕ). id ∷ l) e
given_by false id first second joined e = e

given_both : (first second : List World) → given_ids (first ++ second) ≡ given_ids first ++ given_ids second
unfolding given_ids
given_both [] second = refl
given_both (w ∷ first) second = given_by (eqb (op w) T_CREATE) w.machine.next_id.0 (given_ids first) (given_ids second) (given_ids (first ++ second)) (given_both first second)

chain : (w v u : World) (first second : List World) → Along w first v → Along v second u → Along w (first ++ second) u
chain w v u first second before after =
    subst (λ (ids : List ℕ). Climbs w.machine.next_id.0 w.machine.count ids u.machine.next_id.0 u.machine.count) (sym (given_both first second)) (climbs_on before after)

climbs_rising : {id count last final : ℕ} {ids : List ℕ} → Climbs id count ids last final → Rising id ids last
climbs_rising {id = id} stays = ends {low = id} {high = id} (omega arith)
climbs_rising {id = id} (gives rest) = goes {low = id} {id = id} (omega arith) (climbs_rising rest)

-- the count afterwards is the greatest id given plus 1, if one was given
climbs_count : {id count last final : ℕ} {ids : List ℕ} → count ≤ id → Climbs id count ids last final → final ≡ max count (past_greatest ids)
unfolding past_greatest
climbs_count low stays = omega arith
climbs_count low (gives rest) = let n = climbs_count (omega arith) rest in omega (arith, low, n)

-- ---- ids loaded

abbrev ids_of : List ImageTask → List ℕ
ids_of tasks = map (λ (task : ImageTask). task.id) tasks

loaded_rising : {high low : ℕ} {tasks : List ImageTask} → low ≤ high → Orderly high low tasks → Rising low (ids_of tasks) high
loaded_rising fits none = ends fits
loaded_rising fits (more rising below states rest) = goes rising (loaded_rising (omega (arith, below)) rest)

loaded_count : (tasks : List ImageTask) → s_len_of tasks ≡ past_greatest (ids_of tasks)
unfolding s_len_of past_greatest
loaded_count [] = refl
loaded_count (task ∷ tasks) = let n = loaded_count tasks in omega (arith, n)

greatest_both : (first second : List ℕ) → past_greatest (first ++ second) ≡ max (past_greatest first) (past_greatest second)
unfolding past_greatest
greatest_both [] second = omega arith
greatest_both (id ∷ first) second = let n = greatest_both first second in omega (arith, n)

-- ---- both

module _ (bytes : List ℕ) (first w : World) (b : Begins bytes first.machine) (given : List ℕ)
    (c : Climbs first.machine.next_id.0 first.machine.count given w.machine.next_id.0 w.machine.count) where
  abbrev loaded : List ℕ
  loaded = ids_of b.image.tasks

  all_rising : Rising 0 (loaded ++ given) w.machine.next_id.0
  all_rising = joined (subst (Rising 0 loaded) (sym b.next_id) (loaded_rising (omega arith) b.tasks)) (climbs_rising c)

  all_counted : w.machine.count ≡ past_greatest (loaded ++ given)
  all_counted =
      let low : first.machine.count ≤ first.machine.next_id.0 = let s = s_len_below b.tasks in omega (arith, s, b.next_id, b.count) in
      let n = climbs_count low c in
      let s = loaded_count b.image.tasks in
      let g = greatest_both loaded given in
      omega (arith, n, s, g, b.count)

  both_held : Held (loaded ++ given) w
  both_held = record { rising = each_above all_rising; below = all_below all_rising; counted = all_counted }

  read_held : Held (loaded_ids (read_image bytes) ++ given) w
  unfolding loaded_ids
  read_held = subst (λ (r : Parsed Image). Held (loaded_ids r ++ given) w) (sym b.read) both_held

-- docs/REFERENCE.md, 'Memory, pool and tasks': no two tasks, loaded or created, have one id, and S_LEN pushes the greatest id held since creation plus 1, deleted ones included; 0 if none
pub ids_always : (program image : List ℕ) (first : World) → FreshWorld program image first → (calls : List HostCall) → Held (held_ids image calls first) (history calls first)
ids_always program image first fresh calls =
    read_held image first (history calls first) (fresh_ids program image first fresh) _
    (along_history Along beside one chain calls first (fresh_passes program image first fresh))
