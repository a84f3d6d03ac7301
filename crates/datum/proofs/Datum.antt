-- Plain data: a type of the source with what a walk asks of it. `number`, `struct`, `enum` and `array` make one of an integer, of a declared
-- struct, of a declared enum and of an array of plain data.
use Prim.Native.Nat.{ℕ}
use mathlib.Core.List.{List, [], ◌∷◌, map}
use mathlib.Core.Path.{◌≡◌, refl, ap, subst}
use seplogic.Ra.Ura.{Ura}
use lib.Dec.{T}
use mir.Syntax.{Ty, Width}
use mir.Val.{Val, vint, WT, has_ty}
use types.Logic.{Logic}
use types.Kit.{‵, ◌$◌, ◌∵◌, !, qed, frame, done}
use denote.Array.{Array, array_val, Array-Tells, Array-Lawful, Array-Makes}
use denote.Enum.Declared as ED
use denote.Enum.Enum.{Plainss, Few}
use denote.Enum.Laws as EL
use denote.Exit.{yes, unchanged, each_of}
use denote.Laws.{Is, Tells, Typed, Makes, Lawful, Copy, shows}
use denote.Memory.{lone}
use denote.Plain.{UInt, uint_Tells, uint_Lawful, uint_Makes}
use denote.RattleType.{RattleType}
use denote.Steps.{peeks, owned, only}
use denote.Struct.Declared as SD
use denote.Struct.Laws as SL
use denote.Struct.Struct.{Plains}

pub record Datum : Type 2 where
  pub row : RattleType
  pub val : row.Denot → Val
  pub single : row.mir ≡ lone row.mir ∷ []
  pub tells : Tells row (Is row) (λ x. val x ∷ [])
  pub lawful : {M : Type 1} {𝓤 : Ura M} (𝓛 : Logic 𝓤) → Lawful 𝓛 row
  pub makes : {M : Type 1} {𝓤 : Ura M} (𝓛 : Logic 𝓤) → Makes 𝓛 row (Is row)
  pub still : row.exit yes ≡ unchanged

abbrev pub number : Width → Datum
number w =
    record {
      row = UInt w;
      val = vint w;
      single = refl;
      tells = uint_Tells w;
      lawful = λ 𝓛. uint_Lawful 𝓛 w;
      makes = λ 𝓛. uint_Makes 𝓛 w;
      still = refl;
    }

abbrev pub struct : (T : SD.Declared) → SL.Laws T → Plains (SD.fields T) → SL.Copyables T.parts → Datum
struct T laws plain copy =
    record {
      row = SD.row T;
      val = SL.val T laws;
      single = refl;
      tells = SL.tells T laws;
      lawful = λ 𝓛. SL.lawful T laws 𝓛;
      makes = λ 𝓛. SL.makes T plain 𝓛;
      still = SL.still T copy yes;
    }

abbrev pub enum : (T : ED.Declared) → EL.Laws T → Plainss (ED.variants T) → EL.Copyabless T.parts → Few (ED.shape T) → Datum
enum T laws plain copy few =
    record {
      row = ED.row T;
      val = EL.val T laws;
      single = refl;
      tells = EL.tells T laws;
      lawful = λ 𝓛. EL.lawful T laws 𝓛 few;
      makes = λ 𝓛. EL.makes T plain 𝓛;
      still = EL.still T copy yes;
    }

-- an array of n
abbrev pub array : Datum → ℕ → Datum
array D n =
    record {
      row = Array D.row n;
      val = λ xs. array_val (map D.val xs);
      single = refl;
      tells = Array-Tells D.row (λ x. D.val x ∷ []) D.tells n;
      lawful = λ 𝓛. Array-Lawful 𝓛 D.row (D.lawful 𝓛) n;
      makes = λ 𝓛. Array-Makes 𝓛 D.row (D.makes 𝓛) n;
      still = ap each_of D.still;
    }

module _ (D : Datum) where
  abbrev pub Denot : Type 0
  Denot = D.row.Denot

  abbrev pub ty : Ty
  ty = lone D.row.mir

  abbrev pub vals : Denot → List Val
  vals x = D.val x ∷ []

  -- the machine value is one of the value
  abbrev pub Fact : Denot → Type 0
  Fact x = Is D.row x (vals x)

  -- whatever machine value a value has, it is this one
  pub is_val : (x : Denot) (v : Val) → Is D.row x (v ∷ []) → v ≡ D.val x
  is_val x v is = ap only (D.tells x (v ∷ []) is)

  pub fact : (x : Denot) (v : Val) → Is D.row x (v ∷ []) → Fact x
  fact x v is = subst (Is D.row x) (D.tells x (v ∷ []) is) is

  module _ {M : Type 1} {𝓤 : Ura M} (𝓛 : Logic 𝓤) where
    -- so a local of the type holds it
    pub typed : (x : Denot) → Fact x → T (has_ty ty (D.val x)) × WT (D.val x)
    typed x is = (subst (λ (τs : List Ty). Typed τs (vals x)) D.single ((D.lawful 𝓛).typed x (vals x) is)).0

    -- and it is had twice, since it owns nothing but facts
    pub copies : Copy 𝓛 D.row
    copies = record {
      twice = λ x vs.
          qed 𝓛 (‵ (D.row.own_val x vs) ∷ []) ∵
          peeks ! D.row (Is D.row) (shows 𝓛 D.row) x vs (λ is.
          frame ! $ owned ! D.row (Is D.row) (D.makes 𝓛) x vs is $ done !);
    }
