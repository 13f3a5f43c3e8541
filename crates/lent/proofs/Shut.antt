-- A declared type as a walk carries it: its machine value and its type under one name that stays shut, because written out they are large.
use mathlib.Core.List.{List, [], ◌∷◌}
use seplogic.Ra.Ura.{Ura}
use mir.Syntax.{Ty}
use mir.Val.{Val, WT, has_ty}
use types.Logic.{Logic}
use lib.Dec.{T as Holds}
use denote.RattleType.{RattleType}
use denote.Laws.{Is, Tells, Makes}
use denote.Struct.Struct.{Plains, layout as struct-ty}
use denote.Struct.Declared as struct
use denote.Struct.Laws as struct_laws
use denote.Enum.Enum.{Plainss, Few, layout as enum-ty}
use denote.Enum.Declared as enum
use denote.Enum.Laws as enum_laws
use Rattle.lent.proofs.Landed.{typed_as}

-- A crate says `unfoldable pub NAME-shut : Shut NAME.the_row`, and a walk names what it needs of it: `open NAME-shut use {..}`.
pub record Shut (R : RattleType) : Type 2 where
  pub val : R.Denot → Val
  pub ty : Ty
  pub tells : Tells R (Is R) (λ x. val x ∷ [])
  pub makes : {M : Type 1} {𝓤 : Ura M} (𝓛 : Logic 𝓤) → Makes 𝓛 R (Is R)
  pub typed : {M : Type 1} {𝓤 : Ura M} (𝓛 : Logic 𝓤) (x : R.Denot) → Is R x (val x ∷ []) → Holds (has_ty ty (val x)) × WT (val x)

abbrev pub vals : {R : RattleType} → Shut R → R.Denot → List Val
vals s x = s.val x ∷ []

abbrev pub of_struct : (T : struct.Declared) (L : struct_laws.Laws T) → Plains (struct.fields T) → Shut (struct.row T)
of_struct T L plain = record {
  val = struct_laws.val T L;
  ty = struct-ty (struct.shape T);
  tells = struct_laws.tells T L;
  makes = λ 𝓛. struct_laws.makes T plain 𝓛;
  typed = λ 𝓛 x is. (typed_as T L 𝓛 x is).0;
}

abbrev pub of_enum : (T : enum.Declared) (L : enum_laws.Laws T) → Few (enum.shape T) → Plainss (enum.variants T) → Shut (enum.row T)
of_enum T L few plain = record {
  val = enum_laws.val T L;
  ty = enum-ty (enum.shape T);
  tells = enum_laws.tells T L;
  makes = λ 𝓛. enum_laws.makes T plain 𝓛;
  typed = λ 𝓛 x is. ((enum_laws.lawful T L 𝓛 few).typed x _ is).0;
}
