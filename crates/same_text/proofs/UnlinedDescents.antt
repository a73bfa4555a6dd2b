-- Loops that count down are written as loops that count up without a look at the lines of the tokens.
use Rattle.std.proofs.Common.{◌≡◌, ◌∙◌, ℕ, zero, suc, ◌+◌, ◌-◌, Bool, true, false, cond, List, [], ◌∷◌, ◌++◌, length, map, take, Option, Some, None, refl, sym, ap, ap₂}
use Rattle.std.specs.Prelude.{◌&&◌, ◌||◌, ◌==◌, nat_le, nat_lt, not}
use Rattle.std.specs.Option.{option_map}
use Rattle.c_tokens.specs.declared.kind.Sign.TheVariants as sign
use Rattle.c_grammar.specs.Lexeme.{Lexeme, For}
use Rattle.c_grammar.specs.Lines.{is_omp}
use Rattle.c_grammar.specs.Terminal.{Terminal, Fixed, Mark, Name, Num, Line, Unknown, Unworked, End, same}
use Rattle.c_grammar.specs.Texts.{Item}
use Rattle.c_grammar.specs.Blocks.{Items, at, bare, is_directive}
use Rattle.c_grammar.specs.Constants.{is_mark, with_tokens}
use Rattle.c_grammar.specs.Expressions.{placed_of}
use Rattle.c_grammar.specs.Triangles.{Parts, cut, max_head, max_open, names}
use Rattle.c_grammar.specs.Descents.{Called, Loop, Onward, Open, Part, Plain, Signed, State, Turned, all_at, are_int, are_parts, before_sum, begin, behind, behind_sum, block_of, blocks_behind, counts_down, ends, head, in_brackets, inside, is_bound, is_descent, is_int, is_part, is_positive, len, line_for, loop_at, loop_in, loop_named, loop_of, loop_with, name_in, next_behind, one_more, opens_round, part_of, parts_of, put, put_all, put_on_line, small_in, small_named, stand, stands, stands_of, step, terminal_of, turned_on, upward, upward_in, upward_on, upward_step}
use Rattle.same_text.specs.Laws.{unlined}
use Rattle.same_text.proofs.Unlined.{AreUnlined, all_unlined, bare_unlined, either, one, some}
use Rattle.same_text.proofs.UnlinedPassed.{length_unlined, take_unlined}
use Rattle.same_text.proofs.UnlinedTriangles.{cut_same, names_same, parts_unlined}

-- ---- tokens outside of directive lines

all_at_unlined : (i : Item Terminal) (ts : List Part) → AreUnlined (all_at (unlined i) ts) (all_at i ts)
all_at_unlined i [] = refl
all_at_unlined i (t ∷ ts) = one (at i (terminal_of t)) _ _ (all_at_unlined i ts)

stand_unlined : (free : Bool) (i : Item Terminal) (o : Option (List Part)) → AreUnlined (stand free (unlined i) o) (stand free i o)
stand_unlined free i None = refl
stand_unlined free i (Some ts) =
    let close : Items = at i (Mark sign.CloseParen) ∷ [] in
    either free free (all_at i ts) (in_brackets i (all_at i ts)) _ _ refl (all_at_unlined i ts)
    (one (at i (Mark sign.OpenParen)) _ _ (some (all_at i ts) _ close (all_unlined close) (all_at_unlined i ts) refl))

sum_same : (is : Items) → behind_sum (all_unlined is) ≡ behind_sum is
sum_same [] = refl
sum_same (i ∷ is) = refl

put_unlined : (os : List Open) (free : Bool) (i : Item Terminal) (is : Items) →
    AreUnlined (put os free (unlined i) (all_unlined is)) (put os free i is)
put_unlined os free i is =
    ap (λ (b : Bool). stand (free && b) (unlined i) (stands_of os i.terminal)) (sum_same is)
    ∙ stand_unlined (free && behind_sum is) i (stands_of os i.terminal)

all_put : (is : Items) (os : List Open) (free : Bool) → AreUnlined (put_all os free (all_unlined is)) (put_all os free is)
all_put [] os free = refl
all_put (i ∷ is) os free =
    some (put os free i is) _ (put_all os (before_sum i) is) _ (put_unlined os free i is) (all_put is os (before_sum i))

parts_same : (is : Items) → parts_of (all_unlined is) ≡ parts_of is
parts_same [] = refl
parts_same (i ∷ is) = ap (λ (ts : List Part). part_of i.terminal ∷ ts) (parts_same is)

-- ---- the head

name_same : (is : Items) → name_in (all_unlined is) ≡ name_in is
name_same [] = refl
name_same (o ∷ []) = refl
name_same (o ∷ t ∷ []) = refl
name_same (o ∷ t ∷ x ∷ []) = refl
name_same (o ∷ t ∷ x ∷ e ∷ is) = refl

small_same : (is : Items) → small_in (all_unlined is) ≡ small_in is
small_same [] = refl
small_same (o ∷ []) = refl
small_same (o ∷ t ∷ is) = refl

round_same : (is : Items) → opens_round (all_unlined is) ≡ opens_round is
round_same [] = refl
round_same (i ∷ is) = refl

part_same : (x : List ℕ) (i : Item Terminal) (is : Items) → is_part x (unlined i) (all_unlined is) ≡ is_part x i is
part_same x i [] = refl
part_same x i (j ∷ is) = refl

are_parts_same : (is : Items) (x : List ℕ) (d : ℕ) → are_parts x d (all_unlined is) ≡ are_parts x d is
are_parts_same [] x d = refl
are_parts_same (i ∷ is) x d = λ k.
    cond (is_mark sign.OpenParen i) (are_parts_same is x (d + 1) k) (cond (is_mark sign.CloseParen i)
    (nat_lt 0 d && are_parts_same is x (d - 1) k) (part_same x i is k && are_parts_same is x d k))

bound_same : (is : Items) (x : List ℕ) → is_bound x (all_unlined is) ≡ is_bound x is
bound_same [] x = refl
bound_same (i ∷ is) x = are_parts_same (i ∷ is) x 0

positive_same : (is : Items) → is_positive (all_unlined is) ≡ is_positive is
positive_same [] = refl
positive_same (i ∷ []) = refl
positive_same (i ∷ j ∷ is) = refl

int_same : (is : Items) (os : List Open) → are_int os (all_unlined is) ≡ are_int os is
int_same [] os = refl
int_same (i ∷ is) os = ap (λ (b : Bool). is_int os i.terminal && b) (int_same is os)

ends_same : (os : List Open) (small : Bool) (c : Item Terminal) (is : Items) →
    ends os small (unlined c) (all_unlined is) ≡ ends os small c is
ends_same os small c is = λ k.
    is_mark sign.Greater c ||
    (is_mark sign.GreaterEqual c && cond small (int_same is os k) (positive_same is k))

down_same : (x : List ℕ) (is : Items) → counts_down x (all_unlined is) ≡ counts_down x is
down_same x [] = refl
down_same x (s ∷ []) = refl
down_same x (s ∷ a ∷ []) = refl
down_same x (s ∷ a ∷ b ∷ []) = refl
down_same x (s ∷ a ∷ b ∷ c ∷ []) = refl
down_same x (s ∷ a ∷ b ∷ c ∷ d ∷ is) = refl

descent_same : (os : List Open) (p : Parts) (x : List ℕ) (small : Bool) →
    is_descent os (parts_unlined p) x small ≡ is_descent os p x small
descent_same os p x small = λ k.
    names_same x p.middle k && bound_same p.start x k && bound_same p.limit x k && down_same x p.back k &&
    ends_same os small p.compares p.limit k

-- ---- the loop

abbrev loop_unlined : Loop → Loop
loop_unlined l = record {
  parts = parts_unlined l.parts;
  name = l.name;
  small = l.small;
  first = all_unlined l.first;
  last = all_unlined l.last;
}

with_same : (p : Parts) (x : List ℕ) (small : Bool) (first last : Items) →
    loop_with (parts_unlined p) x small (all_unlined first) (all_unlined last)
    ≡ option_map loop_unlined (loop_with p x small first last)
with_same p x small first last =
    (λ k. cond (nat_le (length_unlined first k + length_unlined last k) max_head) (Some (loop_unlined own)) None)
    ∙ go (nat_le (length first + length last) max_head)
  where
    own : Loop
    own = record { parts = p; name = x; small = small; first = first; last = last }

    go : (t : Bool) → cond t (Some (loop_unlined own)) None ≡ option_map loop_unlined (cond t (Some own) None)
    go true = refl
    go false = refl

one_more_unlined : (c : Item Terminal) → AreUnlined (one_more (unlined c)) (one_more c)
one_more_unlined c =
    let more : Items = at c (Mark sign.Plus) ∷ at c (Num (Some 1)) ∷ [] in
    either (is_mark sign.Greater c) (is_mark sign.Greater c) more [] (all_unlined more) [] refl refl refl

named_same : (os : List Open) (p : Parts) (small : Bool) (o : Option (List ℕ)) →
    loop_named os (parts_unlined p) small o ≡ option_map loop_unlined (loop_named os p small o)
named_same os p small None = refl
named_same os p small (Some x) =
    ap (λ (t : Bool). cond t (loop_with (parts_unlined p) x small first' last') None) (descent_same os p x small)
    ∙ go (is_descent os p x small)
  where
    first : Items
    first = put_all os true p.limit ++ one_more p.compares

    last : Items
    last = put_all os true p.start

    first' : Items
    first' = put_all os true (all_unlined p.limit) ++ one_more (unlined p.compares)

    last' : Items
    last' = put_all os true (all_unlined p.start)

    go : (t : Bool) → cond t (loop_with (parts_unlined p) x small first' last') None
        ≡ option_map loop_unlined (cond t (loop_with p x small first last) None)
    go true =
        ap₂ (λ (js ks : Items). loop_with (parts_unlined p) x small js ks)
        (some (put_all os true p.limit) _ (one_more p.compares) _ (all_put p.limit os true) (one_more_unlined p.compares))
        (all_put p.start os true)
        ∙ with_same p x small first last
    go false = refl

of_same : (os : List Open) (o : Option Parts) → loop_of os (option_map parts_unlined o) ≡ option_map loop_unlined (loop_of os o)
of_same os None = refl
of_same os (Some p) =
    (λ k. loop_named os (parts_unlined p) (small_same p.front k) (name_same p.front k))
    ∙ named_same os p (small_in p.front) (name_in p.front)

in_same : (os : List Open) (is : Items) → loop_in os (all_unlined is) ≡ option_map loop_unlined (loop_in os is)
in_same os is = go (nat_lt (length os) max_open)
  where
    js : Items
    js = take max_head is

    go : (t : Bool) → cond t (loop_of os (cut (take max_head (all_unlined is)))) None
        ≡ option_map loop_unlined (cond t (loop_of os (cut js)) None)
    go true =
        ap (λ (ks : Items). loop_of os (cut ks)) (take_unlined max_head is) ∙ ap (loop_of os) (cut_same js) ∙ of_same os (cut js)
    go false = refl

loop_same : (s : State) (i : Item Terminal) (is : Items) →
    loop_at s (unlined i) (all_unlined is) ≡ option_map loop_unlined (loop_at s i is)
loop_same s i is = go (same (Fixed For) i.terminal)
  where
    go : (t : Bool) →
        cond t (loop_in s.blocks (all_unlined is)) None ≡ option_map loop_unlined (cond t (loop_in s.blocks is) None)
    go true = in_same s.blocks is
    go false = refl

-- ---- what stands for it

upward_unlined_step : (i : Item Terminal) → upward_step (unlined i) ≡ unlined (upward_step i)
upward_unlined_step i = go (is_mark sign.MinusMinus i)
  where
    go : (t : Bool) → cond t (at (unlined i) (Mark sign.PlusPlus)) (unlined i) ≡ unlined (cond t (at i (Mark sign.PlusPlus)) i)
    go true = refl
    go false = refl

steps_unlined : (is : Items) → AreUnlined (map upward_step (all_unlined is)) (map upward_step is)
steps_unlined [] = refl
steps_unlined (i ∷ is) = λ k. upward_unlined_step i k ∷ steps_unlined is k

head_unlined : (l : Loop) → AreUnlined (head (loop_unlined l)) (head l)
head_unlined l =
    let p : Parts = l.parts in
    some p.front _ _ _ refl (some l.first _ _ _ refl (some p.middle _ _ _ refl (one (at p.compares (Mark sign.LessEqual)) _ _
    (some l.last _ (step l) _ refl
    (ap (λ (js : Items). map upward_step js) (take_unlined 5 p.back) ∙ steps_unlined (take 5 p.back))))))

stands_same : (l : Loop) → stands (loop_unlined l) ≡ stands l
stands_same l = λ k. parts_same l.first k ++ Signed sign.Plus ∷ (parts_same l.last k ++ Signed sign.Minus ∷ Called l.name ∷ [])

len_same : (l : Loop) → len (loop_unlined l) ≡ len l
len_same l = λ k.
    length_unlined l.parts.front k + length_unlined l.parts.start k + length_unlined l.parts.middle k + 1 +
    length_unlined l.parts.limit k + 5

-- ---- the tokens

line_unlined : (os : List Open) (i : Item Terminal) (t : Terminal) → line_for os (unlined i) t ≡ unlined (line_for os i t)
line_unlined os i (Line ts) = go (is_omp ts)
  where
    go : (b : Bool) → cond b (with_tokens (unlined i) ts (put_on_line os 0 false (placed_of ts i.columns))) (unlined i)
        ≡ unlined (cond b (with_tokens i ts (put_on_line os 0 false (placed_of ts i.columns))) i)
    go true = refl
    go false = refl
line_unlined os i (Fixed w) = refl
line_unlined os i (Mark s) = refl
line_unlined os i (Name x) = refl
line_unlined os i (Num n) = refl
line_unlined os i Unknown = refl
line_unlined os i Unworked = refl
line_unlined os i End = refl

abbrev GoesSame : Onward → Onward → Type 0
GoesSame go' go = (s : State) (k : ℕ) → AreUnlined (go' s k) (go s k)

block_same : (is : Items) → block_of (all_unlined is) ≡ block_of is
block_same is = λ k. cond (small_same is k) (small_named (name_same is k)) Plain

behind_same : (s : State) (i : Item Terminal) (is : Items) → behind s (unlined i) (all_unlined is) ≡ behind s i is
behind_same s i is = λ k. record {
  blocks = blocks_behind s i;
  next =
      cond (is_mark sign.OpenBrace i || is_mark sign.CloseBrace i) Plain
      (cond (same (Fixed For) i.terminal) (block_same is k) s.next);
  free = before_sum i;
}

inside_same : (s : State) (l : Loop) → inside s (loop_unlined l) ≡ inside s l
inside_same s l =
    ap (λ (ts : List Part). record { blocks = Turned l.name l.small ts ∷ s.blocks; next = Plain; free = false }) (stands_same l)

turned_unlined : (s : State) (i : Item Terminal) (is : Items) (o : Option Loop) (go go' : Onward) → GoesSame go' go →
    AreUnlined (turned_on s (unlined i) (all_unlined is) (option_map loop_unlined o) go') (turned_on s i is o go)
turned_unlined s i is None go go' r =
    some (put s.blocks s.free i is) _ (go (behind s i is) 0) _ (put_unlined s.blocks s.free i is)
    (ap (λ (t : State). go' t 0) (behind_same s i is) ∙ r (behind s i is) 0)
turned_unlined s i is (Some l) go go' r =
    one i _ _ (some (head l) _ (go (inside s l) (len l)) _ (head_unlined l)
    (ap₂ (λ (t : State) (k : ℕ). go' t k) (inside_same s l) (len_same l) ∙ r (inside s l) (len l)))

on_unlined : (k : ℕ) (s : State) (i : Item Terminal) (is : Items) (go go' : Onward) → GoesSame go' go →
    AreUnlined (upward_on s k (unlined i) (all_unlined is) go') (upward_on s k i is go)
on_unlined zero s i is go go' r =
    ap (λ (o : Option Loop). turned_on s (unlined i) (all_unlined is) o go') (loop_same s i is)
    ∙ turned_unlined s i is (loop_at s i is) go go' r
on_unlined (suc k) s i is go go' r = r s k

in_unlined : (is : Items) (s : State) (k : ℕ) → AreUnlined (upward_in s k (all_unlined is)) (upward_in s k is)
in_unlined [] s k = refl
in_unlined (i ∷ is) s k = step (is_directive i.terminal) (λ s k. in_unlined is s k)
  where
    step : (t : Bool) → GoesSame (λ s k. upward_in s k (all_unlined is)) (λ s k. upward_in s k is) →
        AreUnlined
        (cond t (line_for s.blocks (unlined i) i.terminal ∷ upward_in s k (all_unlined is))
        (upward_on s k (unlined i) (bare (all_unlined is)) (λ s k. upward_in s k (all_unlined is))))
        (cond t (line_for s.blocks i i.terminal ∷ upward_in s k is)
        (upward_on s k i (bare is) (λ s k. upward_in s k is)))
    step true ih =
        ap (λ (j : Item Terminal). j ∷ upward_in s k (all_unlined is)) (line_unlined s.blocks i i.terminal)
        ∙ one (line_for s.blocks i i.terminal) (upward_in s k is) (upward_in s k (all_unlined is)) (ih s k)
    step false ih =
        ap (λ (js : Items). upward_on s k (unlined i) js (λ s k. upward_in s k (all_unlined is))) (bare_unlined is)
        ∙ on_unlined k s i (bare is) (λ s k. upward_in s k is) (λ s k. upward_in s k (all_unlined is)) ih

pub upward_unlined : (is : Items) → AreUnlined (upward (all_unlined is)) (upward is)
upward_unlined is = in_unlined is begin 0
