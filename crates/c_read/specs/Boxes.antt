-- The line of the boxed scalars that was read, and their arrays.
use Rattle.std.specs.Prelude.{◌≡◌, ℕ, ◌+◌, ◌-◌, Bool, true, false, ◌||◌, List, [], ◌∷◌, ◌++◌, length, map, drop, Option, Some, is_some}
use Rattle.std.specs.Borrow.{Bor}
use Rattle.std.specs.Str.{bytes_eq}
use Rattle.std.specs.declared.string.String.{String}
use Rattle.base.specs.declared.tree.ArrayInfo.{ArrayInfo}
use Rattle.c_grammar.specs.Grammar.{AreBoxes, boxes_slots}
use Rattle.c_grammar.specs.Lexeme.{Lexeme}
use Rattle.c_grammar.specs.Lines.{is_ascii, is_boxing}
use Rattle.c_grammar.specs.Rules.{fresh_names, is_one, max_arrays, numbered_from}
use Rattle.c_grammar.specs.Terminal.{Terminal, Line}
use Rattle.c_expressions.specs.declared.scope.Scope.{Scope}
use Rattle.c_expressions.specs.Means.{Items, Names, meaning_of}
use Rattle.c_expressions.specs.Reading.{terminals, kinds}
use Rattle.c_expressions.specs.Scopes.{box_numbers, names_of}
use Rattle.c_read.specs.Globals.{IsStill, boxes_in, boxes_on, entry_of, front_of, with_boxes}

abbrev pub texts : List (Bor (List ℕ)) → List (List ℕ)
texts ns = map (λ n. n.now) ns

-- the line that names the boxed scalars
abbrev pub is_boxes_line : Terminal → Bool
is_boxes_line (Line ts) = is_boxing ts
is_boxes_line _ = false

-- all of these names are ASCII
abbrev pub AreAsciiNames : List (List ℕ) → Type 0
AreAsciiNames [] = Unit {0}
AreAsciiNames (x ∷ xs) = (is_ascii x ≡ true) × AreAsciiNames xs

-- the names of the boxed scalars
abbrev pub boxed_in : Scope → List (List ℕ)
boxed_in s = map (λ b. b.0) (box_numbers s)

-- the name is visible, or that of one of these scalars
abbrev pub is_taken : Names → List (List ℕ) → List ℕ → Bool
is_taken names past x = is_some (meaning_of names x) || is_one past x

-- which of these names can be boxed
abbrev pub boxed_of : Scope → List (List ℕ) → List (List ℕ)
boxed_of s xs = fresh_names (λ x. is_some (meaning_of (names_of s) x)) (max_arrays - s.arrays) [] xs

-- the name is that of none of these arrays
abbrev pub HasNoEntry : List ℕ → List (List ℕ × Option ℕ) → Type 0
HasNoEntry x [] = Unit {0}
HasNoEntry x (e ∷ es) = (bytes_eq x e.0 ≡ false) × HasNoEntry x es

-- with the boxed scalars of another scope, and as many arrays
abbrev pub boxing : Scope → Scope → Scope
boxing old new = record old { boxes = new.boxes; arrays = new.arrays }

-- the scalar of that name is boxed
pub record IsBoxed {Z : Type 0} (x : List ℕ) (old new : Scope) (es fs : List (String Z × ArrayInfo)) : Type 0 where
  pub scope : new ≡ boxing old new
  pub boxes : box_numbers new ≡ box_numbers old ++ (x, old.arrays) ∷ []
  pub arrays : new.arrays ≡ old.arrays + 1
  pub entries : map entry_of fs ≡ map entry_of es ++ (x, Some 1) ∷ []

-- the scalars of these names are boxed, of those that can be
pub record AreBoxed {Z : Type 0} (xs : List (List ℕ)) (old new : Scope)
    (es fs : List (String Z × ArrayInfo)) : Type 0 where
  pub scope : new ≡ boxing old new
  pub boxes : box_numbers new ≡ numbered_from old.arrays (boxed_of old xs)
  pub arrays : new.arrays ≡ old.arrays + length (boxed_of old xs)
  pub entries : map entry_of fs ≡ map entry_of es ++ boxes_in (boxed_of old xs)

-- the line of the boxed scalars, or none, and then these tokens stand
pub record AreBoxesRead {Z : Type 0} (old new : Scope) (es fs : List (String Z × ArrayInfo))
    (before after : Items) : Type 0 where
  pub line : Option (List Lexeme)
  pub are : AreBoxes line
  pub tokens : terminals before ≡ kinds (boxes_slots line) ++ terminals after
  pub rest : after ≡ drop (length (boxes_slots line)) before
  pub front : front_of new ≡ with_boxes line (front_of old)
  pub still : IsStill old new
  pub entries : map entry_of fs ≡ map entry_of es ++ boxes_in (boxes_on (front_of old) line)
