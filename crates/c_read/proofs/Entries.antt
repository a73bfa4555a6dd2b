-- The entries of the arrays.
use Rattle.std.proofs.Common.{◌≡◌, ℕ, Bool, true, false, cond, List, [], ◌∷◌, ◌++◌, Option, Some, None, refl, sym, ap, ◌∙◌}
use Rattle.std.specs.Prelude.{is_some, string_bytes}
use Rattle.std.specs.Str.{bytes_eq, IsAscii}
use Rattle.std.specs.Str.Lossy.{utf8_lossy}
use Rattle.std.specs.String.{string_eq}
use Rattle.std.proofs.lemmas.Slice.Eq.{bytes_eq-Decides}
use Rattle.std.proofs.lemmas.Str.{IsUtf8-from_ascii, utf8_lossy-IsUtf8}
use Rattle.std.specs.declared.string.String.{String}
use Rattle.indexmap.specs.IndexMap.{insert_entry}
use Rattle.base.specs.declared.tree.ArrayInfo.{ArrayInfo}
use Rattle.c_expressions.specs.declared.scope.Meaning.{Meaning}
use Rattle.c_expressions.specs.Means.{Names, meaning_of}
use Rattle.c_read.specs.Globals.{AreKnown}

-- a name of ASCII bytes is kept
pub name_kept : (x : List ℕ) → IsAscii x → utf8_lossy x ≡ x
name_kept x h = utf8_lossy-IsUtf8 x (IsUtf8-from_ascii x h)

-- a name more hides none
still_some : (b : Bool) (m : Meaning) (o : Option Meaning) → is_some o ≡ true → is_some (cond b (Some m) o) ≡ true
still_some true m o h = refl
still_some false m o h = h

-- a name that is not visible is none of the entries
none_some : (o : Option Meaning) → o ≡ None → is_some o ≡ true → ⊥
none_some None e h = absurd cc
none_some (Some m) e h = absurd cc

apart : (b : Bool) (x y : List ℕ) (ns : Names) → b ≡ bytes_eq x y → meaning_of ns x ≡ None →
    is_some (meaning_of ns y) ≡ true → b ≡ false
apart false x y ns e h k = refl
apart true x y ns e h k =
    absurd (none_some (meaning_of ns y) (ap (meaning_of ns) (sym ((bytes_eq-Decides x y).0 (sym e))) ∙ h) k)

module _ {Z : Type 0} where
  pub known_more : (x : List ℕ) (m : Meaning) (ns : Names) (es : List (String Z × ArrayInfo)) →
      AreKnown ns es → AreKnown ((x, m) ∷ ns) es
  known_more x m ns [] h = tt
  known_more x m ns (e ∷ es) h =
      (still_some (bytes_eq x (string_bytes e.0)) m (meaning_of ns (string_bytes e.0)) h.0, known_more x m ns es h.1)

  pub known_last : (ns : Names) (es : List (String Z × ArrayInfo)) (e : String Z × ArrayInfo) →
      AreKnown ns es → is_some (meaning_of ns (string_bytes e.0)) ≡ true → AreKnown ns (es ++ e ∷ [])
  known_last ns [] e h k = (k, tt)
  known_last ns (f ∷ es) e h k = (h.0, known_last ns es e h.1 k)

  pub insert_last : (k : String Z) (v : ArrayInfo) (ns : Names) (es : List (String Z × ArrayInfo)) →
      AreKnown ns es → meaning_of ns (string_bytes k) ≡ None → insert_entry string_eq es k v ≡ es ++ (k, v) ∷ []
  insert_last k v ns [] h n = refl
  insert_last k v ns (e ∷ es) h n =
      rw (apart (string_eq k e.0) (string_bytes k) (string_bytes e.0) ns refl n h.0)
      (ap (λ (fs : List (String Z × ArrayInfo)). e ∷ fs) (insert_last k v ns es h.1 n))
