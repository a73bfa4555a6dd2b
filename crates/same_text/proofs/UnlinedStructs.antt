-- Structs are written out without a look at the lines of the tokens.
use Rattle.std.proofs.Common.{◌≡◌, ◌∙◌, ℕ, zero, suc, ◌+◌, Bool, true, false, cond, List, [], ◌∷◌, ◌++◌, map, Option, Some, None, refl, sym, ap, ap₂}
use Rattle.std.specs.Prelude.{◌&&◌, ◌||◌, is_some, not}
use Rattle.std.specs.Option.{option_map}
use Rattle.std.proofs.lemmas.List.{map-append}
use Rattle.std.specs.Str.{bytes_eq}
use Rattle.c_tokens.specs.declared.kind.Sign.TheVariants as sign
use Rattle.c_grammar.specs.Lexeme.{Uint64}
use Rattle.c_grammar.specs.Terminal.{Terminal, Fixed, Mark, Name, Num, Line, Unknown, Unworked, End, same}
use Rattle.c_grammar.specs.Texts.{Item}
use Rattle.c_grammar.specs.Blocks.{Items, at, bare, is_directive}
use Rattle.c_grammar.specs.Allocations.{depth_behind, is_boundary}
use Rattle.c_grammar.specs.Constants.{is_mark, is_name}
use Rattle.c_grammar.specs.FunctionHeads.{is_qualifier}
use Rattle.c_grammar.specs.Structs.{Array, Before, Body, Declared, Definition, Form, Found, Holder, Nothing, OfLength, OfMany, OfOne, OfRow, OfType, OnType, One, Onward, Pointer, Put, Spot, State, Struct, Use, agree, agreed, arrow_put, before_behind, before_name, begin, begins_name, behind, behind_index, behind_other, behind_typedef, body, body_on, braced, closed, closes, count, count_in, declared, declared_behind, declared_by, declared_put, declared_with, definition_at, definition_put, dot_put, ends, ends_first, ends_length, found, held_by, hold, holder_of, in_rows, index_at, indices_behind, innermost, is_struct, is_struct_word, is_zero, lengths, member_put, name_put, named, noted, nothing_found, number_in, number_of, own_name, pointer, pointer_on, put_at, put_behind, put_on, renamed, row_length, rows_from, rows_on, spoil, spot_behind, struct_at, struct_of, structured, tagged_use, typedef_word, use_at, use_of, variable, variable_on, with_body, with_declared, with_definition, with_name, with_own, with_struct, with_tag, without_own}
use Rattle.same_text.specs.Laws.{unlined}
use Rattle.same_text.proofs.Unlined.{AreUnlined, all_unlined, bare_unlined, either, one, some}

pick : {A : Type 0} (f : A → A) (b : Bool) (o p o' p' : Option A) → o' ≡ option_map f o → p' ≡ option_map f p →
    cond b o' p' ≡ option_map f (cond b o p)
pick f true o p o' p' e h = e
pick f false o p o' p' e h = h

more : {A : Type 0} (f : A → A) (xs : List A) (x : A) → map f xs ++ f x ∷ [] ≡ map f (xs ++ x ∷ [])
more f xs x = sym (map-append f xs (x ∷ []))

-- ---- definitions

abbrev body_unlined : Body → Body
body_unlined b = record { len = b.len; rest = all_unlined b.rest }

abbrev struct_unlined : Struct → Struct
struct_unlined s = record { tagged = s.tagged; name = s.name; members = all_unlined s.members }

abbrev definition_unlined : Definition → Definition
definition_unlined d = record { tag = d.tag; own = d.own; members = all_unlined d.members; len = d.len }

body_same : (is : Items) (s : Spot) (n : ℕ) → body s n (all_unlined is) ≡ option_map body_unlined (body s n is)
body_same [] s n = refl
body_same (i ∷ is) s n =
    pick body_unlined (closes s n i.terminal) (Some (record { len = n + 1; rest = is }))
    (body_on (spot_behind s i.terminal) (λ s. body s (n + 1) is)) _ _ refl
    (go (spot_behind s i.terminal) (λ s. body_same is s (n + 1)))
  where
    go : (o : Option Spot) →
        ((s : Spot) → body s (n + 1) (all_unlined is) ≡ option_map body_unlined (body s (n + 1) is)) →
        body_on o (λ s. body s (n + 1) (all_unlined is)) ≡ option_map body_unlined (body_on o (λ s. body s (n + 1) is))
    go None h = refl
    go (Some s) h = h s

own_same : (tag : Option (List ℕ)) (ms : Items) (n : ℕ) (t : Terminal) →
    own_name tag (all_unlined ms) n t ≡ option_map definition_unlined (own_name tag ms n t)
own_same tag ms n (Name x) = refl
own_same tag ms n (Fixed w) = refl
own_same tag ms n (Mark s) = refl
own_same tag ms n (Num m) = refl
own_same tag ms n (Line ts) = refl
own_same tag ms n Unknown = refl
own_same tag ms n Unworked = refl
own_same tag ms n End = refl

with_own_same : (tag : Option (List ℕ)) (ms : Items) (n : ℕ) (is : Items) →
    with_own tag (all_unlined ms) n (all_unlined is) ≡ option_map definition_unlined (with_own tag ms n is)
with_own_same tag ms n [] = refl
with_own_same tag ms n (x ∷ []) = refl
with_own_same tag ms n (x ∷ e ∷ is) =
    pick definition_unlined (is_mark sign.Semicolon e) (own_name tag ms (n + 2) x.terminal) None _ None
    (own_same tag ms (n + 2) x.terminal) refl

without_own_same : (tag : Option (List ℕ)) (ms : Items) (n : ℕ) (is : Items) →
    without_own tag (all_unlined ms) n (all_unlined is) ≡ option_map definition_unlined (without_own tag ms n is)
without_own_same tag ms n [] = refl
without_own_same tag ms n (e ∷ is) =
    pick definition_unlined (is_mark sign.Semicolon e) (Some (record { tag = tag; own = None; members = ms; len = n + 1 })) None
    _ None refl refl

with_body_same : (owns : Bool) (tag : Option (List ℕ)) (n : ℕ) (ms : Items) (o : Option Body) →
    with_body owns tag n (all_unlined ms) (option_map body_unlined o) ≡ option_map definition_unlined (with_body owns tag n ms o)
with_body_same owns tag n ms None = refl
with_body_same owns tag n ms (Some b) =
    pick definition_unlined owns (with_own tag ms (n + b.len) b.rest) (without_own tag ms (n + b.len) b.rest) _ _
    (with_own_same tag ms (n + b.len) b.rest) (without_own_same tag ms (n + b.len) b.rest)

braced_same : (owns : Bool) (tag : Option (List ℕ)) (n : ℕ) (is : Items) →
    braced owns tag n (all_unlined is) ≡ option_map definition_unlined (braced owns tag n is)
braced_same owns tag n [] = refl
braced_same owns tag n (b ∷ is) =
    pick definition_unlined (is_mark sign.OpenBrace b) (with_body owns tag (n + 1) is (body OnType 0 is)) None _ None
    (ap (with_body owns tag (n + 1) (all_unlined is)) (body_same is OnType 0)
    ∙ with_body_same owns tag (n + 1) is (body OnType 0 is)) refl

of_same : (ss : List Struct) (tagged : Bool) (x : List ℕ) →
    struct_of (map struct_unlined ss) tagged x ≡ option_map struct_unlined (struct_of ss tagged x)
of_same [] tagged x = refl
of_same (s ∷ ss) tagged x =
    pick struct_unlined (is_struct tagged x s) (Some s) (struct_of ss tagged x) _ _ refl (of_same ss tagged x)

begins_same : (is : Items) → begins_name (all_unlined is) ≡ begins_name is
begins_same [] = refl
begins_same (i ∷ is) = refl

renamed_same : (n : ℕ) (is : Items) (o : Option Struct) →
    renamed n (all_unlined is) (option_map struct_unlined o) ≡ option_map definition_unlined (renamed n is o)
renamed_same n is None = refl
renamed_same n is (Some s) = with_own_same None s.members n is

with_tag_same : (ss : List Struct) (owns : Bool) (n : ℕ) (x : List ℕ) (is : Items) →
    with_tag (map struct_unlined ss) owns n x (all_unlined is) ≡ option_map definition_unlined (with_tag ss owns n x is)
with_tag_same ss owns n x is =
    ap (λ (b : Bool). cond (owns && b) (renamed n (all_unlined is) (struct_of (map struct_unlined ss) true x))
    (braced owns (Some x) n (all_unlined is))) (begins_same is)
    ∙ pick definition_unlined (owns && begins_name is) (renamed n is (struct_of ss true x)) (braced owns (Some x) n is) _ _
    (ap (renamed n (all_unlined is)) (of_same ss true x) ∙ renamed_same n is (struct_of ss true x))
    (braced_same owns (Some x) n is)

unnamed_same : (owns : Bool) (n : ℕ) (i : Item Terminal) (is : Items) →
    cond owns (braced true None n (all_unlined (i ∷ is))) None ≡
    option_map definition_unlined (cond owns (braced true None n (i ∷ is)) None)
unnamed_same owns n i is =
    pick definition_unlined owns (braced true None n (i ∷ is)) None _ None (braced_same true None n (i ∷ is)) refl

named_same : (ss : List Struct) (owns : Bool) (n : ℕ) (t : Terminal) (i : Item Terminal) (is : Items) →
    named (map struct_unlined ss) owns n t (unlined i) (all_unlined is) ≡ option_map definition_unlined (named ss owns n t i is)
named_same ss owns n (Name x) i is = with_tag_same ss owns (n + 1) x is
named_same ss owns n (Fixed w) i is = unnamed_same owns n i is
named_same ss owns n (Mark s) i is = unnamed_same owns n i is
named_same ss owns n (Num m) i is = unnamed_same owns n i is
named_same ss owns n (Line ts) i is = unnamed_same owns n i is
named_same ss owns n Unknown i is = unnamed_same owns n i is
named_same ss owns n Unworked i is = unnamed_same owns n i is
named_same ss owns n End i is = unnamed_same owns n i is

structured_same : (ss : List Struct) (owns : Bool) (n : ℕ) (is : Items) →
    structured (map struct_unlined ss) owns n (all_unlined is) ≡ option_map definition_unlined (structured ss owns n is)
structured_same ss owns n [] = refl
structured_same ss owns n (i ∷ is) = named_same ss owns n i.terminal i is

typedef_same : (ss : List Struct) (is : Items) →
    behind_typedef (map struct_unlined ss) (all_unlined is) ≡ option_map definition_unlined (behind_typedef ss is)
typedef_same ss [] = refl
typedef_same ss (s ∷ is) =
    pick definition_unlined (is_struct_word s) (structured ss true 1 is) None _ None (structured_same ss true 1 is) refl

definition_same : (ss : List Struct) (i : Item Terminal) (is : Items) →
    definition_at (map struct_unlined ss) (unlined i) (all_unlined is) ≡ option_map definition_unlined (definition_at ss i is)
definition_same ss i is =
    pick definition_unlined (is_struct_word i) (structured ss false 0 is)
    (cond (same typedef_word i.terminal) (behind_typedef ss is) None) _ _ (structured_same ss false 0 is)
    (pick definition_unlined (same typedef_word i.terminal) (behind_typedef ss is) None _ None (typedef_same ss is) refl)

-- ---- members

number_in_same : (is : Items) (n : ℕ) (x : List ℕ) → number_in n (all_unlined is) x ≡ number_in n is x
number_in_same [] n x = refl
number_in_same (i ∷ is) n x =
    ap (λ (o : Option ℕ). cond (is_mark sign.CloseBrace i) None (cond (same (Name x) i.terminal) (Some n) o))
    (number_in_same is (cond (is_name i.terminal) (n + 1) n) x)

number_same : (ms : Items) (t : Terminal) → number_of (all_unlined ms) t ≡ number_of ms t
number_same ms (Name x) = number_in_same ms 0 x
number_same ms (Fixed w) = refl
number_same ms (Mark s) = refl
number_same ms (Num m) = refl
number_same ms (Line ts) = refl
number_same ms Unknown = refl
number_same ms Unworked = refl
number_same ms End = refl

count_in_same : (is : Items) (n : ℕ) → count_in n (all_unlined is) ≡ count_in n is
count_in_same [] n = refl
count_in_same (i ∷ is) n =
    ap (λ (m : ℕ). cond (is_mark sign.CloseBrace i) n m) (count_in_same is (cond (is_name i.terminal) (n + 1) n))

count_same : (ms : Items) → count (all_unlined ms) ≡ count ms
count_same ms = count_in_same ms 0

-- ---- declarations of names

abbrev holder_unlined : Holder → Holder
holder_unlined h = record { name = h.name; many = h.many; struct = struct_unlined h.struct }

abbrev use_unlined : Use → Use
use_unlined u = record { struct = struct_unlined u.struct; len = u.len; rest = all_unlined u.rest }

abbrev declared_unlined : Declared → Declared
declared_unlined d = record { form = d.form; holder = holder_unlined d.holder; len = d.len }

use_of_same : (o : Option Struct) (n : ℕ) (is : Items) →
    use_of (option_map struct_unlined o) n (all_unlined is) ≡ option_map use_unlined (use_of o n is)
use_of_same None n is = refl
use_of_same (Some s) n is = refl

struct_at_same : (ss : List Struct) (tagged : Bool) (t : Terminal) →
    struct_at (map struct_unlined ss) tagged t ≡ option_map struct_unlined (struct_at ss tagged t)
struct_at_same ss tagged (Name x) = of_same ss tagged x
struct_at_same ss tagged (Fixed w) = refl
struct_at_same ss tagged (Mark s) = refl
struct_at_same ss tagged (Num m) = refl
struct_at_same ss tagged (Line ts) = refl
struct_at_same ss tagged Unknown = refl
struct_at_same ss tagged Unworked = refl
struct_at_same ss tagged End = refl

tagged_use_same : (ss : List Struct) (is : Items) →
    tagged_use (map struct_unlined ss) (all_unlined is) ≡ option_map use_unlined (tagged_use ss is)
tagged_use_same ss [] = refl
tagged_use_same ss (x ∷ is) =
    ap (λ (o : Option Struct). use_of o 1 (all_unlined is)) (struct_at_same ss true x.terminal)
    ∙ use_of_same (struct_at ss true x.terminal) 1 is

use_same : (ss : List Struct) (i : Item Terminal) (is : Items) →
    use_at (map struct_unlined ss) (unlined i) (all_unlined is) ≡ option_map use_unlined (use_at ss i is)
use_same ss i is =
    pick use_unlined (is_struct_word i) (tagged_use ss is) (use_of (struct_at ss false i.terminal) 0 is) _ _
    (tagged_use_same ss is)
    (ap (λ (o : Option Struct). use_of o 0 (all_unlined is)) (struct_at_same ss false i.terminal)
    ∙ use_of_same (struct_at ss false i.terminal) 0 is)

by_same : (t : Terminal) (form : Form) (s : Struct) (n : ℕ) →
    declared_by t form (struct_unlined s) n ≡ option_map declared_unlined (declared_by t form s n)
by_same (Name x) form s n = refl
by_same (Fixed w) form s n = refl
by_same (Mark t) form s n = refl
by_same (Num m) form s n = refl
by_same (Line ts) form s n = refl
by_same Unknown form s n = refl
by_same Unworked form s n = refl
by_same End form s n = refl

ends_same : (d : ℕ) (i : Item Terminal) → ends d (unlined i) ≡ ends d i
ends_same zero i = refl
ends_same (suc d) i = refl

first_same : (d : ℕ) (is : Items) → ends_first d (all_unlined is) ≡ ends_first d is
first_same d [] = refl
first_same d (i ∷ is) = ends_same d i

length_same : (d : ℕ) (is : Items) → ends_length d (all_unlined is) ≡ ends_length d is
length_same d [] = refl
length_same d (i ∷ is) =
    ap₂ (λ (b c : Bool). cond (is_mark sign.CloseBracket i) b (cond (is_boundary i.terminal || is_mark sign.OpenBracket i) false c))
    (first_same d is) (length_same d is)

variable_on_same : (d : ℕ) (u : Use) (x e : Item Terminal) (is : Items) →
    variable_on d (use_unlined u) (unlined x) (unlined e) (all_unlined is) ≡ option_map declared_unlined (variable_on d u x e is)
variable_on_same d u x e is =
    pick declared_unlined (is_mark sign.OpenBracket e)
    (cond (ends_length d is) (declared_by x.terminal Array u.struct u.len) None)
    (cond (is_zero d && ends d e) (declared_by x.terminal One u.struct u.len) None) _ _
    (ap (λ (b : Bool). cond b (declared_by x.terminal Array (struct_unlined u.struct) u.len) None) (length_same d is)
    ∙ pick declared_unlined (ends_length d is) (declared_by x.terminal Array u.struct u.len) None _ None
    (by_same x.terminal Array u.struct u.len) refl)
    (ap (λ (b : Bool). cond (is_zero d && b) (declared_by x.terminal One (struct_unlined u.struct) u.len) None) (ends_same d e)
    ∙ pick declared_unlined (is_zero d && ends d e) (declared_by x.terminal One u.struct u.len) None _ None
    (by_same x.terminal One u.struct u.len) refl)

variable_same : (d : ℕ) (u : Use) (x : Item Terminal) (is : Items) →
    variable d (use_unlined u) (unlined x) (all_unlined is) ≡ option_map declared_unlined (variable d u x is)
variable_same d u x [] = refl
variable_same d u x (e ∷ is) = variable_on_same d u x e is

pointer_on_same : (d : ℕ) (u : Use) (n : ℕ) (is : Items) →
    pointer_on d (use_unlined u) n (all_unlined is) ≡ option_map declared_unlined (pointer_on d u n is)
pointer_on_same d u n [] = refl
pointer_on_same d u n (x ∷ []) = refl
pointer_on_same d u n (x ∷ e ∷ is) =
    ap (λ (b : Bool). cond (not (is_zero d) && b) (declared_by x.terminal Pointer (struct_unlined u.struct) (u.len + n)) None)
    (ends_same d e)
    ∙ pick declared_unlined (not (is_zero d) && ends d e) (declared_by x.terminal Pointer u.struct (u.len + n)) None _ None
    (by_same x.terminal Pointer u.struct (u.len + n)) refl

pointer_same : (d : ℕ) (u : Use) (is : Items) →
    pointer d (use_unlined u) (all_unlined is) ≡ option_map declared_unlined (pointer d u is)
pointer_same d u [] = refl
pointer_same d u (x ∷ is) =
    pick declared_unlined (is_qualifier x.terminal) (pointer_on d u 2 is) (pointer_on d u 1 (x ∷ is)) _ _
    (pointer_on_same d u 2 is) (pointer_on_same d u 1 (x ∷ is))

behind_type_same : (d : ℕ) (u : Use) (is : Items) →
    declared_behind d (use_unlined u) (all_unlined is) ≡ option_map declared_unlined (declared_behind d u is)
behind_type_same d u [] = refl
behind_type_same d u (s ∷ is) =
    pick declared_unlined (is_mark sign.Star s) (pointer d u is) (variable d u s is) _ _ (pointer_same d u is)
    (variable_same d u s is)

with_use_same : (d : ℕ) (o : Option Use) →
    declared_with d (option_map use_unlined o) ≡ option_map declared_unlined (declared_with d o)
with_use_same d None = refl
with_use_same d (Some u) = behind_type_same d u u.rest

declared_same : (d : ℕ) (ss : List Struct) (i : Item Terminal) (is : Items) →
    declared d (map struct_unlined ss) (unlined i) (all_unlined is) ≡ option_map declared_unlined (declared d ss i is)
declared_same d ss i is = ap (declared_with d) (use_same ss i is) ∙ with_use_same d (use_at ss i is)

-- ---- all that is declared

abbrev found_unlined : Found → Found
found_unlined f =
    record { structs = map struct_unlined f.structs; holders = map holder_unlined f.holders; spoiled = f.spoiled }

holder_same : (hs : List Holder) (x : List ℕ) →
    holder_of (map holder_unlined hs) x ≡ option_map holder_unlined (holder_of hs x)
holder_same [] x = refl
holder_same (h ∷ hs) x = pick holder_unlined (bytes_eq h.name x) (Some h) (holder_of hs x) _ _ refl (holder_same hs x)

with_struct_same : (tagged : Bool) (x : List ℕ) (ms : Items) (f : Found) →
    with_struct tagged x (all_unlined ms) (found_unlined f) ≡ found_unlined (with_struct tagged x ms f)
with_struct_same tagged x ms f =
    ap (λ (o : Option Struct). cond (is_some o) (spoil (found_unlined f)) added) (of_same f.structs tagged x)
    ∙ go (struct_of f.structs tagged x)
  where
    s : Struct
    s = record { tagged = tagged; name = x; members = ms }

    added : Found
    added = record {
      structs = map struct_unlined f.structs ++ struct_unlined s ∷ [];
      holders = map holder_unlined f.holders;
      spoiled = f.spoiled;
    }

    go : (o : Option Struct) → cond (is_some (option_map struct_unlined o)) (spoil (found_unlined f)) added ≡
        found_unlined (cond (is_some o) (spoil f)
        (record { structs = f.structs ++ s ∷ []; holders = f.holders; spoiled = f.spoiled }))
    go None = λ t. record {
      structs = more struct_unlined f.structs s t;
      holders = map holder_unlined f.holders;
      spoiled = f.spoiled;
    }
    go (Some r) = refl

with_name_same : (tagged : Bool) (o : Option (List ℕ)) (ms : Items) (f : Found) →
    with_name tagged o (all_unlined ms) (found_unlined f) ≡ found_unlined (with_name tagged o ms f)
with_name_same tagged None ms f = refl
with_name_same tagged (Some x) ms f = with_struct_same tagged x ms f

with_definition_same : (o : Option Definition) (f : Found) →
    with_definition (option_map definition_unlined o) (found_unlined f) ≡ found_unlined (with_definition o f)
with_definition_same None f = refl
with_definition_same (Some d) f =
    ap (with_name false d.own (all_unlined d.members)) (with_name_same true d.tag d.members f)
    ∙ with_name_same false d.own d.members (with_name true d.tag d.members f)

hold_same : (o : Option Holder) (h : Holder) (f : Found) →
    hold (option_map holder_unlined o) (holder_unlined h) (found_unlined f) ≡ found_unlined (hold o h f)
hold_same None h f = λ t. record {
  structs = map struct_unlined f.structs;
  holders = more holder_unlined f.holders h t;
  spoiled = f.spoiled;
}
hold_same (Some g) h f = go (agree g h)
  where
    go : (b : Bool) → cond b (found_unlined f) (spoil (found_unlined f)) ≡ found_unlined (cond b f (spoil f))
    go true = refl
    go false = refl

with_declared_same : (o : Option Declared) (f : Found) →
    with_declared (option_map declared_unlined o) (found_unlined f) ≡ found_unlined (with_declared o f)
with_declared_same None f = refl
with_declared_same (Some d) f =
    ap (λ (o : Option Holder). hold o (holder_unlined d.holder) (found_unlined f)) (holder_same f.holders d.holder.name)
    ∙ hold_same (holder_of f.holders d.holder.name) d.holder f

defined_same : (d : ℕ) (i : Item Terminal) (is : Items) (f : Found) →
    cond (is_zero d) (with_definition (definition_at (map struct_unlined f.structs) (unlined i) (all_unlined is)) (found_unlined f))
    (found_unlined f) ≡ found_unlined (cond (is_zero d) (with_definition (definition_at f.structs i is) f) f)
defined_same d i is f = go (is_zero d)
  where
    go : (b : Bool) →
        cond b (with_definition (definition_at (map struct_unlined f.structs) (unlined i) (all_unlined is)) (found_unlined f))
        (found_unlined f) ≡ found_unlined (cond b (with_definition (definition_at f.structs i is) f) f)
    go true =
        ap (λ (o : Option Definition). with_definition o (found_unlined f)) (definition_same f.structs i is)
        ∙ with_definition_same (definition_at f.structs i is) f
    go false = refl

noted_same : (d : ℕ) (i : Item Terminal) (is : Items) (f : Found) →
    noted d (unlined i) (all_unlined is) (found_unlined f) ≡ found_unlined (noted d i is f)
noted_same d i is f =
    let g : Found = cond (is_zero d) (with_definition (definition_at f.structs i is) f) f in
    ap (λ (h : Found). with_declared (declared d h.structs (unlined i) (all_unlined is)) h) (defined_same d i is f)
    ∙ ap (λ (o : Option Declared). with_declared o (found_unlined g)) (declared_same d g.structs i is)
    ∙ with_declared_same (declared d g.structs i is) g

found_same : (is : Items) (d : ℕ) (f : Found) → found d (found_unlined f) (all_unlined is) ≡ found_unlined (found d f is)
found_same [] d f = refl
found_same (i ∷ is) d f =
    ap (λ (g : Found). found (depth_behind i.terminal d) g (all_unlined is)) (noted_same d i is f)
    ∙ found_same is (depth_behind i.terminal d) (noted d i is f)

agreed_same : (f : Found) → agreed (found_unlined f) ≡ found_unlined (agreed f)
agreed_same f = go f.spoiled
  where
    go : (b : Bool) → cond b (spoil nothing_found) (found_unlined f) ≡ found_unlined (cond b (spoil nothing_found) f)
    go true = refl
    go false = refl

-- ---- what stands before a token

abbrev before_unlined : Before → Before
before_unlined Nothing = Nothing
before_unlined (OfOne ms) = OfOne (all_unlined ms)
before_unlined (OfMany ms) = OfMany (all_unlined ms)
before_unlined (OfRow ms) = OfRow (all_unlined ms)
before_unlined (OfLength ms) = OfLength (all_unlined ms)
before_unlined (OfType t ms) = OfType t (all_unlined ms)

abbrev state_unlined : State → State
state_unlined s =
    record { depth = s.depth; indices = map before_unlined s.indices; before = before_unlined s.before }

chosen_before : (b : Bool) (x y x' y' : Before) → x' ≡ before_unlined x → y' ≡ before_unlined y →
    cond b x' y' ≡ before_unlined (cond b x y)
chosen_before true x y x' y' e h = e
chosen_before false x y x' y' e h = h

held_same : (o : Option Holder) → held_by (option_map holder_unlined o) ≡ before_unlined (held_by o)
held_same None = refl
held_same (Some h) =
    chosen_before h.many (OfMany h.struct.members) (OfOne h.struct.members) _ _ refl refl

name_same : (f : Found) (t : Terminal) → before_name (found_unlined f) t ≡ before_unlined (before_name f t)
name_same f (Name x) = ap held_by (holder_same f.holders x) ∙ held_same (holder_of f.holders x)
name_same f (Fixed w) = refl
name_same f (Mark s) = refl
name_same f (Num m) = refl
name_same f (Line ts) = refl
name_same f Unknown = refl
name_same f Unworked = refl
name_same f End = refl

innermost_same : (bs : List Before) → innermost (map before_unlined bs) ≡ before_unlined (innermost bs)
innermost_same [] = refl
innermost_same (b ∷ bs) = refl

closed_same : (bs : List Before) → closed (map before_unlined bs) ≡ map before_unlined (closed bs)
closed_same [] = refl
closed_same (b ∷ bs) = refl

index_same : (b : Before) → behind_index (before_unlined b) ≡ before_unlined (behind_index b)
index_same Nothing = refl
index_same (OfOne ms) = refl
index_same (OfMany ms) = refl
index_same (OfRow ms) = refl
index_same (OfLength ms) = refl
index_same (OfType t ms) = refl

other_same : (a b : Before) → behind_other (before_unlined a) (before_unlined b) ≡ before_unlined (behind_other a b)
other_same Nothing b = refl
other_same (OfOne ms) b = refl
other_same (OfMany ms) b = refl
other_same (OfRow ms) b = refl
other_same (OfLength ms) b = refl
other_same (OfType One ms) b = refl
other_same (OfType Array ms) b = refl
other_same (OfType Pointer ms) b = refl

indices_same : (i : Item Terminal) (s : State) →
    indices_behind (unlined i) (state_unlined s) ≡ map before_unlined (indices_behind i s)
indices_same i s = go (is_mark sign.OpenBracket i) (is_mark sign.CloseBracket i)
  where
    go : (b c : Bool) →
        cond b (before_unlined s.before ∷ map before_unlined s.indices)
        (cond c (closed (map before_unlined s.indices)) (map before_unlined s.indices)) ≡
        map before_unlined (cond b (s.before ∷ s.indices) (cond c (closed s.indices) s.indices))
    go true c = refl
    go false true = closed_same s.indices
    go false false = refl

before_same : (f : Found) (i : Item Terminal) (s : State) →
    before_behind (found_unlined f) (unlined i) (state_unlined s) ≡ before_unlined (before_behind f i s)
before_same f i s =
    chosen_before (is_mark sign.CloseBracket i) (behind_index (innermost s.indices))
    (behind_other s.before (before_name f i.terminal)) _ _
    (ap behind_index (innermost_same s.indices) ∙ index_same (innermost s.indices))
    (ap (behind_other (before_unlined s.before)) (name_same f i.terminal) ∙ other_same s.before (before_name f i.terminal))

behind_same : (f : Found) (i : Item Terminal) (s : State) →
    behind (found_unlined f) (unlined i) (state_unlined s) ≡ state_unlined (behind f i s)
behind_same f i s = λ t. record {
  depth = depth_behind i.terminal s.depth;
  indices = indices_same i s t;
  before = before_same f i s t;
}

-- ---- what is put

abbrev put_unlined : Put → Put
put_unlined p = record { items = all_unlined p.items; len = p.len; before = before_unlined p.before }

member_same : (i : Item Terminal) (row : Items) (n : ℕ) (o : Option ℕ) →
    member_put (unlined i) (all_unlined row) n o ≡ option_map put_unlined (member_put i row n o)
member_same i row n None = refl
member_same i row n (Some m) = λ t. Some (record {
  items = some row (all_unlined row) (index_at i m) (index_at (unlined i) m) refl refl t;
  len = n;
  before = Nothing;
})

dot_same : (b : Before) (i : Item Terminal) (is : Items) →
    dot_put (before_unlined b) (unlined i) (all_unlined is) ≡ option_map put_unlined (dot_put b i is)
dot_same Nothing i is = refl
dot_same (OfOne ms) i [] = refl
dot_same (OfOne ms) i (x ∷ is) =
    ap (member_put (unlined i) (index_at (unlined i) 0) 1) (number_same ms x.terminal)
    ∙ member_same i (index_at i 0) 1 (number_of ms x.terminal)
dot_same (OfMany ms) i is = refl
dot_same (OfRow ms) i [] = refl
dot_same (OfRow ms) i (x ∷ is) =
    ap (member_put (unlined i) [] 1) (number_same ms x.terminal) ∙ member_same i [] 1 (number_of ms x.terminal)
dot_same (OfLength ms) i is = refl
dot_same (OfType t ms) i is = refl

arrow_same : (b : Before) (i : Item Terminal) (is : Items) →
    arrow_put (before_unlined b) (unlined i) (all_unlined is) ≡ option_map put_unlined (arrow_put b i is)
arrow_same Nothing i is = refl
arrow_same (OfOne ms) i is = refl
arrow_same (OfMany ms) i [] = refl
arrow_same (OfMany ms) i (g ∷ []) = refl
arrow_same (OfMany ms) i (g ∷ x ∷ is) =
    pick put_unlined (is_mark sign.Greater g) (member_put i (index_at i 0) 2 (number_of ms x.terminal)) None _ None
    (ap (member_put (unlined i) (index_at (unlined i) 0) 2) (number_same ms x.terminal)
    ∙ member_same i (index_at i 0) 2 (number_of ms x.terminal)) refl
arrow_same (OfRow ms) i is = refl
arrow_same (OfLength ms) i is = refl
arrow_same (OfType t ms) i is = refl

declared_put_same : (i : Item Terminal) (o : Option Declared) →
    declared_put (unlined i) (option_map declared_unlined o) ≡ option_map put_unlined (declared_put i o)
declared_put_same i None = refl
declared_put_same i (Some d) = refl

definition_put_same : (o : Option Definition) →
    definition_put (option_map definition_unlined o) ≡ option_map put_unlined (definition_put o)
definition_put_same None = refl
definition_put_same (Some d) = refl

has_same : (o : Option Definition) → is_some (option_map definition_unlined o) ≡ is_some o
has_same None = refl
has_same (Some d) = refl

name_put_same : (f : Found) (s : State) (i : Item Terminal) (is : Items) →
    name_put (found_unlined f) (state_unlined s) (unlined i) (all_unlined is) ≡ option_map put_unlined (name_put f s i is)
name_put_same f s i is =
    let o : Option Definition = definition_at f.structs i is in
    let d' : Option Put =
    declared_put (unlined i) (declared s.depth (map struct_unlined f.structs) (unlined i) (all_unlined is)) in
    ap (λ (p : Option Definition). cond (is_zero s.depth && not f.spoiled && is_some p) (definition_put p) d')
    (definition_same f.structs i is)
    ∙ ap (λ (b : Bool). cond (is_zero s.depth && not f.spoiled && b) (definition_put (option_map definition_unlined o)) d')
    (has_same o)
    ∙ pick put_unlined (is_zero s.depth && not f.spoiled && is_some o) (definition_put o)
    (declared_put i (declared s.depth f.structs i is)) _ _ (definition_put_same o)
    (ap (declared_put (unlined i)) (declared_same s.depth f.structs i is)
    ∙ declared_put_same i (declared s.depth f.structs i is))

put_same : (f : Found) (s : State) (i : Item Terminal) (is : Items) →
    put_at (found_unlined f) (state_unlined s) (unlined i) (all_unlined is) ≡ option_map put_unlined (put_at f s i is)
put_same f s i is =
    pick put_unlined (is_mark sign.Dot i) (dot_put s.before i is)
    (cond (is_mark sign.Minus i) (arrow_put s.before i is) (name_put f s i is)) _ _ (dot_same s.before i is)
    (pick put_unlined (is_mark sign.Minus i) (arrow_put s.before i is) (name_put f s i is) _ _ (arrow_same s.before i is)
    (name_put_same f s i is))

row_same : (b : Before) (i : Item Terminal) → AreUnlined (row_length (before_unlined b) (unlined i)) (row_length b i)
row_same Nothing i = refl
row_same (OfOne ms) i = refl
row_same (OfMany ms) i = refl
row_same (OfRow ms) i = refl
row_same (OfLength ms) i = ap (index_at (unlined i)) (count_same ms)
row_same (OfType t ms) i = refl

lengths_same : (b : Before) (i : Item Terminal) → AreUnlined (lengths (before_unlined b) (unlined i)) (lengths b i)
lengths_same Nothing i = refl
lengths_same (OfOne ms) i = refl
lengths_same (OfMany ms) i = refl
lengths_same (OfRow ms) i = refl
lengths_same (OfLength ms) i = refl
lengths_same (OfType One ms) i =
    ap (λ (n : ℕ). index_at (unlined i) 1 ++ index_at (unlined i) n) (count_same ms)
lengths_same (OfType Array ms) i = refl
lengths_same (OfType Pointer ms) i =
    ap (λ (n : ℕ). at (unlined i) (Mark sign.OpenBracket) ∷ at (unlined i) (Mark sign.CloseBracket) ∷ index_at (unlined i) n)
    (count_same ms)

put_behind_same : (s : State) (i : Item Terminal) → AreUnlined (put_behind (state_unlined s) (unlined i)) (put_behind s i)
put_behind_same s i =
    either (is_mark sign.CloseBracket i) (is_mark sign.CloseBracket i) _ _ _ _ refl
    (ap (λ (b : Before). row_length b (unlined i)) (innermost_same s.indices) ∙ row_same (innermost s.indices) i)
    (lengths_same s.before i)

-- ---- the tokens

abbrev GoesSame : Onward → Onward → Type 0
GoesSame go' go = (s : State) (k : ℕ) → AreUnlined (go' (state_unlined s) k) (go s k)

put_on_same : (f : Found) (s : State) (i : Item Terminal) (o : Option Put) (go go' : Onward) → GoesSame go' go →
    AreUnlined (put_on (found_unlined f) (state_unlined s) (unlined i) (option_map put_unlined o) go') (put_on f s i o go)
put_on_same f s i None go go' r =
    either (is_mark sign.Dot i) (is_mark sign.Dot i) (at i Unknown ∷ []) (i ∷ (put_behind s i ++ go (behind f i s) 0)) _ _ refl
    refl
    (one i (put_behind s i ++ go (behind f i s) 0) _
    (some (put_behind s i) (put_behind (state_unlined s) (unlined i)) (go (behind f i s) 0) _ (put_behind_same s i)
    (ap (λ (t : State). go' t 0) (behind_same f i s) ∙ r (behind f i s) 0)))
put_on_same f s i (Some p) go go' r =
    some p.items (all_unlined p.items) _ _ refl (r (record { depth = s.depth; indices = s.indices; before = p.before }) p.len)

on_same : (k : ℕ) (f : Found) (s : State) (i : Item Terminal) (is : Items) (go go' : Onward) → GoesSame go' go →
    AreUnlined (rows_on (found_unlined f) (state_unlined s) k (unlined i) (all_unlined is) go') (rows_on f s k i is go)
on_same zero f s i is go go' r =
    ap (λ (o : Option Put). put_on (found_unlined f) (state_unlined s) (unlined i) o go') (put_same f s i is)
    ∙ put_on_same f s i (put_at f s i is) go go' r
on_same (suc k) f s i is go go' r = r s k

in_same : (is : Items) (f : Found) (s : State) (k : ℕ) →
    AreUnlined (rows_from (found_unlined f) (state_unlined s) k (all_unlined is)) (rows_from f s k is)
in_same [] f s k = refl
in_same (i ∷ is) f s k = step (is_directive i.terminal) (λ s k. in_same is f s k)
  where
    next : State → ℕ → Items
    next s k = rows_from (found_unlined f) s k (all_unlined is)

    step : (t : Bool) → GoesSame next (λ s k. rows_from f s k is) →
        AreUnlined
        (cond t (unlined i ∷ next (state_unlined s) k)
        (rows_on (found_unlined f) (state_unlined s) k (unlined i) (bare (all_unlined is)) next))
        (cond t (i ∷ rows_from f s k is) (rows_on f s k i (bare is) (λ s k. rows_from f s k is)))
    step true ih = one i (rows_from f s k is) (next (state_unlined s) k) (ih s k)
    step false ih =
        ap (λ (js : Items). rows_on (found_unlined f) (state_unlined s) k (unlined i) js next) (bare_unlined is)
        ∙ on_same k f s i (bare is) (λ s k. rows_from f s k is) next ih

pub rows_unlined : (is : Items) → AreUnlined (in_rows (all_unlined is)) (in_rows is)
rows_unlined is =
    let f : Found = found 0 nothing_found (bare is) in
    ap (λ (js : Items). rows_from (agreed (found 0 nothing_found js)) begin 0 (all_unlined is)) (bare_unlined is)
    ∙ ap (λ (g : Found). rows_from (agreed g) begin 0 (all_unlined is)) (found_same (bare is) 0 nothing_found)
    ∙ ap (λ (g : Found). rows_from g begin 0 (all_unlined is)) (agreed_same f) ∙ in_same is (agreed f) begin 0
