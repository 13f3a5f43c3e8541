-- What it is for a function to answer, and to leave in what it is lent, what an equation says.
use Prim.Native.Nat.{ℕ}
use mathlib.Core.List.{List, [], ◌∷◌}
use seplogic.Ra.Ura.{Ura}
use base.Fml.{Lft}
use base.Logic.{emp, sep}
use prog.Model.{Model}
use prog.Routine.{Callee}
use prog.Wired.{Code, Wired}
use types.Logic.{Logic}
use contract.BorrowLft.{◌⊑◌}
use contract.Lifetimes.{Lfts}
use contract.Monad.{fact, fact_mono, fm→mono}
use contract.Running.{Running}
use denote.Exit.{Seen}
use denote.Param.{bounded}
use denote.Param.Laws.{Laws, IsCopy}
use denote.RattleType.{RattleType, Denots}
use mir.Syntax.{Args, Dict, a_type, dcons, dnil}
use Rattle.std.specs.declared.clone.Clone.{Ghosts}
use Rattle.std.specs.contracts.clone.Clone.TheBound.{Met}
use denote.Signature.{Slot, types_at}
use denote.Triple.Both.{Both}
use denote.Triple.Clauses.{Clauses, Ended, at_exit, closing}
use denote.Triple.End.{Kepts, Outs}
use denote.Triple.Entry.{Res}
use denote.Triple.Spec.{Meets, Spec, exits}
use denote.Triple.Table.{run_framed}
use denote.Triple.Weaken.{weaken}

module _ {n : ℕ} (κs : Lfts n) (R : Type 0) where
  -- an equation over each thing that is handed in, at entry and at exit, and over the result
  abbrev pub Equation : (ss : List (Slot n)) → Kepts ss → Type 1
  Equation [] ks = R → Type 0
  Equation (s ∷ ss) ks = Both (s.row κs).Denot (Seen ((s.row κs).exit ks.0)) → Equation ss ks.1

  -- that it holds of a call
  abbrev pub Holds : (ss : List (Slot n)) (ks : Kepts ss) → Equation ss ks → Denots (types_at ss κs) → Outs κs ss ks → R → Type 0
  Holds [] ks equation at-entry at-exit r = equation r
  Holds (s ∷ ss) ks equation at-entry at-exit r = Holds ss ks.1 (equation (record { entry = at-entry.0; exit = at-exit.0 })) at-entry.1 at-exit.1 r

  -- that another follows from it
  abbrev pub Follows : (ss : List (Slot n)) (ks : Kepts ss) → Equation ss ks → Equation ss ks → Type 0
  Follows [] ks equation other = (r : R) → equation r → other r
  Follows (s ∷ ss) ks equation other = (x : Both (s.row κs).Denot (Seen ((s.row κs).exit ks.0))) → Follows ss ks.1 (equation x) (other x)

  holds_too : (ss : List (Slot n)) (ks : Kepts ss) (equation other : Equation ss ks) → Follows ss ks equation other → (at-entry : Denots (types_at ss κs)) (at-exit : Outs κs ss ks) (r : R) → Holds ss ks equation at-entry at-exit r → Holds ss ks other at-entry at-exit r
  holds_too [] ks equation other follows at-entry at-exit r e = follows r e
  holds_too (s ∷ ss) ks equation other follows at-entry at-exit r e =
      holds_too ss ks.1 (equation _) (other _) (follows (record { entry = at-entry.0; exit = at-exit.0 })) at-entry.1 at-exit.1 r e

-- the equations over what a function is handed and its result, at all lifetimes
abbrev pub Line : Ended → Type 1
Line T = (κs : Lfts T.signature.lifetimes) → Equation κs (Res T.signature κs) T.signature.params T.kept

-- the contract that asks nothing and ensures the equation
abbrev ensuring : {M : Type 1} (𝓤 : Ura M) (T : Ended) → Line T → Clauses 𝓤 T
ensuring 𝓤 T line κs at-entry = record {
  ghost = Unit {0};
  requires = λ _. emp 𝓤;
  ensures = λ _ r at-exit. fact 𝓤 (Holds κs (Res T.signature κs) T.signature.params T.kept (line κs) at-entry at-exit r);
}

-- the function takes every call, and ends with the equation between what it was handed, what it leaves and its result
abbrev pub Answers : (M : Type 1) (T : Ended) → Callee → Code → Line T → Type 2
Answers M T name code line =
    (𝓤 : Ura M) (𝓛 : Logic 𝓤) (𝓜 : Model 𝓤 𝓛.H) (𝓡 : Running 𝓤 𝓛.H 𝓜) → Wired 𝓡.env code → Meets 𝓛 T.signature (𝓡.run (𝓡.env name)) (closing 𝓛 T (ensuring 𝓤 T line))

-- the contract that asks that a type is there as long as the call lasts, and nothing else, and ensures the equation
abbrev asking : {M : Type 1} (𝓤 : Ura M) (𝓛 : Logic 𝓤) (T : Ended) → (Lfts T.signature.lifetimes → Lft) → Lft → Line T → Spec 𝓤 T.signature
asking 𝓤 𝓛 T call lives line κs at-entry = record {
  ghost = Unit {0};
  requires = λ _. sep 𝓤 (fact 𝓤 (call κs ⊑ lives)) (emp 𝓤);
  ensures = λ _ r. exits 𝓛 T.signature T.kept κs at-entry (λ at-exit. fact 𝓤 (Holds κs (Res T.signature κs) T.signature.params T.kept (line κs) at-entry at-exit r));
}

-- the same of a function over each type whose values are copied: it takes every call with values of a type that is there as long as the call lasts
abbrev pub AnswersEach : (M : Type 1) (T : (t : RattleType) → Ghosts t.Denot → Dict → Ended)
    → ((t : RattleType) (clone : Ghosts t.Denot) (dict : Dict) → Lfts (T t clone dict).signature.lifetimes → Lft)
    → (Args → Callee) → Code → ((t : RattleType) (clone : Ghosts t.Denot) (dict : Dict) → Line (T t clone dict)) → Type 2
AnswersEach M T call name code line =
    (𝓤 : Ura M) (𝓛 : Logic 𝓤) (𝓜 : Model 𝓤 𝓛.H) (𝓡 : Running 𝓤 𝓛.H 𝓜) → Wired 𝓡.env code
    → (t : RattleType) → Laws t → IsCopy t → (clone : Ghosts t.Denot) (dict : Dict) → Met 𝓛 𝓜 𝓡 𝓡.env t clone dict
    → Meets 𝓛 (T t clone dict).signature (𝓡.run (𝓡.env (name (bounded (a_type ∷ []) (t, tt) (dcons dict dnil))))) (asking 𝓤 𝓛 (T t clone dict) (call t clone dict) t.lives (line t clone dict))

-- and so with what follows from the equation
pub so : {M : Type 1} (T : Ended) (name : Callee) (code : Code) (line other : Line T) → Answers M T name code line → ((κs : Lfts T.signature.lifetimes) → Follows κs (Res T.signature κs) T.signature.params T.kept (line κs) (other κs)) → Answers M T name code other
so T name code line other met follows 𝓤 𝓛 𝓜 𝓡 wired =
    weaken 𝓛 T (ensuring 𝓤 T line) (λ κs at-entry. (ensuring 𝓤 T other κs at-entry).ensures)
    (λ κs at-entry _ r ws. fact_mono 𝓤 _ _ (holds_too κs (Res T.signature κs) T.signature.params T.kept (line κs) (other κs) (follows κs) at-entry (at_exit T κs at-entry ws) r))
    (𝓡.run (𝓡.env name)) (λ vs. fm→mono 𝓤 (𝓡.run (𝓡.env name) vs) (run_framed 𝓤 𝓛.H 𝓜 𝓡 (𝓡.env name) vs)) (met 𝓤 𝓛 𝓜 𝓡 wired)
