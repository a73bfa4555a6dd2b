-- Which scalars are boxed, and the entries of their arrays.
use Rattle.std.proofs.Common.{◌≡◌, ℕ, suc, ◌+◌, ◌-◌, ◌≤◌, Bool, true, false, cond, List, [], ◌∷◌, ◌++◌, length, map, take, drop, Option, Some, refl, sym, ap, subst, ◌∙◌, append_assoc, arith, take_all, slice_index_or}
use Rattle.std.specs.Prelude.{◌||◌, is_some, nat_lt, string_bytes}
use Rattle.std.specs.Borrow.{Bor}
use Rattle.std.specs.List.{list_all}
use Rattle.std.specs.Str.{bytes_eq, IsAscii}
use Rattle.std.specs.String.{string_eq}
use Rattle.std.proofs.lemmas.Bool.{and_parts, ltb-true}
use Rattle.std.proofs.lemmas.List.{map_push}
use Rattle.std.proofs.lemmas.Slice.Eq.{bytes_eq-Decides}
use Rattle.std.proofs.lemmas.Str.Ascii.{IsAscii-cons, IsAscii-nil}
use Rattle.std.specs.declared.string.String.{String}
use Rattle.indexmap.specs.IndexMap.{insert_entry}
use Rattle.base.specs.declared.tree.ArrayInfo.{ArrayInfo}
use Rattle.c_grammar.specs.Lexeme.{Lexeme, Reserved, Worded, Numbered, Signed, Strange, Ended}
use Rattle.c_grammar.specs.Lines.{boxed_names, is_ascii, worded}
use Rattle.c_grammar.specs.Rules.{fresh_names, is_boxes_name, is_one, names_on, numbered_from}
use Rattle.c_grammar.specs.Terminal.{Terminal, Fixed, Mark, Name, Num, Line, Unknown, Unworked, End}
use Rattle.c_expressions.specs.Means.{Names, meaning_of}
use Rattle.c_read.specs.Boxes.{AreAsciiNames, HasNoEntry, is_taken, texts}
use Rattle.c_read.specs.Globals.{AreKnown, boxes_in, entry_of}

-- ---- ASCII names

pub ascii_from : (x : List ℕ) → is_ascii x ≡ true → IsAscii x
ascii_from [] e = IsAscii-nil
ascii_from (b ∷ bs) e =
    let parts = and_parts (nat_lt b 128) (list_all (λ b. nat_lt b 128) bs) e in
    IsAscii-cons b bs (ltb-true b 128 parts.0) (ascii_from bs parts.1)

kept_ascii : (b : Bool) (x : List ℕ) (xs : List (List ℕ)) → is_ascii x ≡ b → AreAsciiNames xs →
    AreAsciiNames (cond b (x ∷ xs) xs)
kept_ascii true x xs e h = (e, h)
kept_ascii false x xs e h = h

worded_ascii : (ts : List Lexeme) → AreAsciiNames (worded ts)
worded_ascii [] = tt
worded_ascii (Worded x ∷ ts) = kept_ascii (is_ascii x) x (worded ts) refl (worded_ascii ts)
worded_ascii (Reserved w ∷ ts) = worded_ascii ts
worded_ascii (Numbered n ∷ ts) = worded_ascii ts
worded_ascii (Signed s ∷ ts) = worded_ascii ts
worded_ascii (Strange ∷ ts) = worded_ascii ts
worded_ascii (Ended ∷ ts) = worded_ascii ts

boxed_ascii : (ts : List Lexeme) → AreAsciiNames (boxed_names ts)
boxed_ascii [] = tt
boxed_ascii (t ∷ []) = tt
boxed_ascii (t ∷ u ∷ []) = tt
boxed_ascii (t ∷ u ∷ v ∷ ts) = worded_ascii ts

pub names_ascii : (t : Terminal) → AreAsciiNames (names_on t)
names_ascii (Line ts) = boxed_ascii ts
names_ascii (Fixed w) = tt
names_ascii (Mark s) = tt
names_ascii (Name x) = tt
names_ascii (Num n) = tt
names_ascii Unknown = tt
names_ascii Unworked = tt
names_ascii End = tt

-- ---- names with numbers

named_one : (bs : List (List ℕ × ℕ)) (x : List ℕ) → is_boxes_name bs x ≡ is_one (map (λ b. b.0) bs) x
named_one [] x = refl
named_one (b ∷ bs) x = ap (λ (o : Bool). bytes_eq b.0 x || o) (named_one bs x)

-- the name is not visible, and may be one of these
pub taken_by : (names : Names) (bs : List (List ℕ × ℕ)) (x : List ℕ) (r : Bool) → r ≡ is_boxes_name bs x →
    is_some (meaning_of names x) ≡ false → r ≡ is_taken names (map (λ b. b.0) bs) x
taken_by names bs x r e h =
    e ∙ named_one bs x ∙ ap (λ (o : Bool). o || is_one (map (λ b. b.0) bs) x) (sym h)

pub numbered_more : (k : ℕ) (xs : List (List ℕ)) (x : List ℕ) →
    numbered_from k (xs ++ x ∷ []) ≡ numbered_from k xs ++ (x, k + length xs) ∷ []
numbered_more k [] x = ap (λ (n : ℕ). (x, n) ∷ []) (omega arith)
numbered_more k (y ∷ ys) x =
    let e : k + 1 + length ys ≡ k + length (y ∷ ys) = omega arith in
    ap (λ (bs : List (List ℕ × ℕ)). (y, k) ∷ bs) (numbered_more (k + 1) ys x)
    ∙ ap (λ (n : ℕ). (y, k) ∷ (numbered_from (k + 1) ys ++ (x, n) ∷ [])) e

-- ---- which are fresh

pub fresh_full : (known : List ℕ → Bool) (past xs : List (List ℕ)) → fresh_names known 0 past xs ≡ []
fresh_full known past [] = refl
fresh_full known past (x ∷ xs) = refl

pub fresh_one : (known : List ℕ → Bool) (n : ℕ) (past xs : List (List ℕ)) (x : List ℕ) →
    (known x || is_one past x) ≡ false →
    fresh_names known (suc n) past (x ∷ xs) ≡ x ∷ fresh_names known n (past ++ x ∷ []) xs
fresh_one known n past xs x e = rw e refl

pub fresh_past : (known : List ℕ → Bool) (n : ℕ) (past xs : List (List ℕ)) (x : List ℕ) →
    (known x || is_one past x) ≡ true →
    fresh_names known (suc n) past (x ∷ xs) ≡ fresh_names known (suc n) past xs
fresh_past known n past xs x e = rw e refl

-- one of them more is boxed
pub names_more : (known : List ℕ → Bool) (room n : ℕ) (past new xs all : List (List ℕ)) (x : List ℕ) → room ≡ suc n →
    (known x || is_one past x) ≡ false → new ≡ past ++ x ∷ [] →
    past ++ fresh_names known room past (x ∷ xs) ≡ all → new ++ fresh_names known n new xs ≡ all
names_more known room n past new xs all x e f g h =
    let step : fresh_names known room past (x ∷ xs) ≡ x ∷ fresh_names known n (past ++ x ∷ []) xs =
    ap (λ (k : ℕ). fresh_names known k past (x ∷ xs)) e ∙ fresh_one known n past xs x f in
    ap (λ (ps : List (List ℕ)). ps ++ fresh_names known n ps xs) g
    ∙ append_assoc past (x ∷ []) (fresh_names known n (past ++ x ∷ []) xs)
    ∙ ap (λ (us : List (List ℕ)). past ++ us) (sym step) ∙ h

-- ---- the names that are left

pub first_text : (xs : List (Bor (List ℕ))) (d : Bor (List ℕ)) → 1 ≤ length xs →
    texts xs ≡ (slice_index_or xs 0 d).now ∷ texts (take (length xs - 1) (drop 1 xs))
first_text [] d h = absurd (omega (arith, h))
first_text (x ∷ xs) d h =
    ap (λ (ys : List (Bor (List ℕ))). x.now ∷ texts ys) (sym (take_all (length (x ∷ xs) - 1) xs (omega arith)))

pub ascii_first : (x : List ℕ) (xs ys : List (List ℕ)) → ys ≡ x ∷ xs → AreAsciiNames ys → IsAscii x
ascii_first x xs ys e h =
    ascii_from x (let k : AreAsciiNames (x ∷ xs) = subst (λ (zs : List (List ℕ)). AreAsciiNames zs) e h in k.0)

pub ascii_rest : (x : List ℕ) (xs ys : List (List ℕ)) → ys ≡ x ∷ xs → AreAsciiNames ys → AreAsciiNames xs
ascii_rest x xs ys e h =
    (let k : AreAsciiNames (x ∷ xs) = subst (λ (zs : List (List ℕ)). AreAsciiNames zs) e h in k.1)

-- ---- the entries

no_name : (b : Bool) (x y : List ℕ) → b ≡ bytes_eq x y → (x ≡ y → ⊥) → b ≡ false
no_name false x y e h = refl
no_name true x y e h = absurd (h ((bytes_eq-Decides x y).0 (sym e)))

known_apart : (names : Names) (x y : List ℕ) → is_some (meaning_of names x) ≡ false →
    is_some (meaning_of names y) ≡ true → x ≡ y → ⊥
known_apart names x y h k e =
    (let clash : is_some (meaning_of names x) ≡ true = ap (λ (z : List ℕ). is_some (meaning_of names z)) e ∙ k in cc)

same_name : (z x : List ℕ) → z ≡ x → bytes_eq z x ≡ false → ⊥
same_name z x e f = (let yes : bytes_eq z x ≡ true = (bytes_eq-Decides z x).1 e in cc)

none_boxed : (xs : List (List ℕ)) (x : List ℕ) → is_one xs x ≡ false → HasNoEntry x (boxes_in xs)
none_boxed [] x h = tt
none_boxed (y ∷ ys) x h =
    let both = parts (bytes_eq y x) h in
    (no_name (bytes_eq x y) x y refl (λ e. same_name y x (sym e) both.0), none_boxed ys x both.1)
  where
    parts : (b : Bool) → (b || is_one ys x) ≡ false → (b ≡ false) × (is_one ys x ≡ false)
    parts true e = absurd cc
    parts false e = (refl, e)

module _ {Z : Type 0} where
  pub no_entry : (names : Names) (x : List ℕ) (past : List (List ℕ)) (es : List (String Z × ArrayInfo)) →
      AreKnown names es → is_some (meaning_of names x) ≡ false → is_one past x ≡ false →
      HasNoEntry x (map entry_of es ++ boxes_in past)
  no_entry names x past [] k h o = none_boxed past x o
  no_entry names x past (e ∷ es) k h o = (
    no_name (bytes_eq x (string_bytes e.0)) x (string_bytes e.0) refl (known_apart names x (string_bytes e.0) h k.0),
    no_entry names x past es k.1 h o,
  )

  -- and one entry more
  pub entries_more : (past new : List (List ℕ)) (x : List ℕ) (es ms fs : List (String Z × ArrayInfo)) →
      new ≡ past ++ x ∷ [] → map entry_of fs ≡ map entry_of ms ++ (x, Some 1) ∷ [] →
      map entry_of ms ≡ map entry_of es ++ boxes_in past → map entry_of fs ≡ map entry_of es ++ boxes_in new
  entries_more past new x es ms fs g e h =
      e ∙ ap (λ (us : List (List ℕ × Option ℕ)). us ++ (x, Some 1) ∷ []) h
      ∙ append_assoc (map entry_of es) (boxes_in past) ((x, Some 1) ∷ [])
      ∙ ap (λ (us : List (List ℕ × Option ℕ)). map entry_of es ++ us) (sym (map_push box_entry past x))
      ∙ ap (λ (ps : List (List ℕ)). map entry_of es ++ boxes_in ps) (sym g)
    where
      box_entry : List ℕ → List ℕ × Option ℕ
      box_entry y = (y, Some 1)

  -- the entry of a new name comes last
  insert_new : (k : String Z) (v : ArrayInfo) (x : List ℕ) (es : List (String Z × ArrayInfo)) → string_bytes k ≡ x →
      HasNoEntry x (map entry_of es) → insert_entry string_eq es k v ≡ es ++ (k, v) ∷ []
  insert_new k v x [] e h = refl
  insert_new k v x (f ∷ es) e h =
      let other : string_eq k f.0 ≡ false = ap (λ (y : List ℕ). bytes_eq y (string_bytes f.0)) e ∙ h.0 in
      rw other (ap (λ (fs : List (String Z × ArrayInfo)). f ∷ fs) (insert_new k v x es e h.1))

  pub entry_more : (k : String Z) (v : ArrayInfo) (x : List ℕ) (es fs : List (String Z × ArrayInfo)) →
      fs ≡ insert_entry string_eq es k v → string_bytes k ≡ x → v.length ≡ 1 → HasNoEntry x (map entry_of es) →
      map entry_of fs ≡ map entry_of es ++ (x, Some 1) ∷ []
  entry_more k v x es fs g e n h =
      ap (λ (us : List (String Z × ArrayInfo)). map entry_of us) (g ∙ insert_new k v x es e h)
      ∙ map_push entry_of es (k, v)
      ∙ ap (λ (y : List ℕ). map entry_of es ++ (y, Some v.length) ∷ []) e
      ∙ ap (λ (m : ℕ). map entry_of es ++ (x, Some m) ∷ []) n
