-- Lines say of updates that they commute without a look at the lines of the tokens.
use Rattle.std.proofs.Common.{◌≡◌, ◌∙◌, ℕ, zero, suc, ◌+◌, ◌-◌, Bool, true, false, cond, List, [], ◌∷◌, ◌++◌, length, take, drop, Option, Some, None, refl, sym, ap}
use Rattle.std.specs.Prelude.{◌&&◌, ◌||◌, ◌==◌, if◌then◌else◌, not, is_some}
use Rattle.c_tokens.specs.declared.kind.Sign.{Sign}
use Rattle.c_tokens.specs.declared.kind.Sign.TheVariants as sign
use Rattle.c_grammar.specs.Lexeme.{Lexeme, Placed, If}
use Rattle.c_grammar.specs.Terminal.{Terminal, Fixed, Mark, Name, Num, Line, Unknown, Unworked, End, same}
use Rattle.c_grammar.specs.Texts.{Item}
use Rattle.c_grammar.specs.Blocks.{Items, bare, is_directive}
use Rattle.c_grammar.specs.Changes.{Kind, With, ByNumber, ByOne, is_boundary, is_mark, kind_of}
use Rattle.c_grammar.specs.Constants.{Names, with_tokens}
use Rattle.c_grammar.specs.Expressions.{placed_of}
use Rattle.c_grammar.specs.Functions.{index_len}
use Rattle.c_grammar.specs.Presence.{goes_on, opens_part}
use Rattle.c_grammar.specs.Updates.{BySign, ByExtreme, Extreme, Inside, OnRegion, Onward, Operation, Outside, Reduction, Region, again, again_at, all_mapped, allowed, allowed_at, allowed_on, are_summed, atomic_tokens, begins_with, behind, changed, changed_behind, changing, clause_on, commuting, directive_on, equal, extreme_at, extreme_of, flat, has_extreme, has_update, is_assigned, is_atomic, is_by, is_changed, is_combined, is_commuting, is_compare, is_extreme, is_gathered, is_named, is_reduced, is_round, is_short, is_summed, is_taken, is_updated, lexemes, line_on, mapped_words, mark_at, marked, mention, named_update, none_mapped, other, place_len, reduced, reduction_at, sign_at, summed, taken, taken_at, token_on, update, with_names}
use Rattle.same_text.specs.Laws.{unlined}
use Rattle.same_text.proofs.Unlined.{AreUnlined, all_unlined, bare_unlined, one}
use Rattle.same_text.proofs.UnlinedCalls.{index_same}
use Rattle.same_text.proofs.UnlinedPassed.{drop_unlined, length_unlined, take_unlined}
use Rattle.same_text.proofs.UnlinedPresence.{goes_unlined, same_if}

-- ---- updates of a cell or a scalar

changing_unlined : (k : Option Kind) (is : Items) → changing k (all_unlined is) ≡ changing k is
changing_unlined None is = refl
changing_unlined (Some (With op)) is = refl
changing_unlined (Some (ByNumber op)) is = refl
changing_unlined (Some (ByOne op)) [] = refl
changing_unlined (Some (ByOne op)) (s ∷ is) = refl

begins_unlined : (is js : Items) → begins_with (all_unlined is) (all_unlined js) ≡ begins_with is js
begins_unlined [] js = refl
begins_unlined (i ∷ is) [] = refl
begins_unlined (i ∷ is) (j ∷ js) = ap (λ (b : Bool). equal i.terminal j.terminal && b) (begins_unlined is js)

sign_unlined : (is : Items) → sign_at (all_unlined is) ≡ sign_at is
sign_unlined [] = refl
sign_unlined (i ∷ is) = refl

again_unlined : (x : List ℕ) (index is : Items) → again x (all_unlined index) (all_unlined is) ≡ again x index is
again_unlined x index [] = refl
again_unlined x index (y ∷ is) =
    ap (λ (b : Bool). cond (same (Name x) y.terminal && b) (sign_at (drop (length (all_unlined index)) (all_unlined is))) None)
    (begins_unlined index is)
    ∙ ap (λ (o : Option Sign). cond (same (Name x) y.terminal && begins_with index is) o None)
    (ap (λ (n : ℕ). sign_at (drop n (all_unlined is))) (length_unlined index)
    ∙ ap sign_at (drop_unlined (length index) is) ∙ sign_unlined (drop (length index) is))

changed_unlined : (x : List ℕ) (index is : Items) → changed x (all_unlined index) (all_unlined is) ≡ changed x index is
changed_unlined x index [] = refl
changed_unlined x index (i ∷ is) =
    ap (λ (o : Option Sign). cond (is_mark sign.Equal i) o (changing (kind_of i.terminal) (all_unlined is))) (again_unlined x index is)
    ∙ ap (λ (o : Option Sign). cond (is_mark sign.Equal i) (again x index is) o) (changing_unlined (kind_of i.terminal) is)

behind_unlined : (x : List ℕ) (is : Items) (o : Option ℕ) → changed_behind x (all_unlined is) o ≡ changed_behind x is o
behind_unlined x is None = refl
behind_unlined x is (Some k) =
    ap (λ (js : Items). changed x js (drop k (all_unlined is))) (take_unlined k is)
    ∙ ap (λ (js : Items). changed x (all_unlined (take k is)) js) (drop_unlined k is)
    ∙ changed_unlined x (take k is) (drop k is)

place_unlined : (is : Items) → place_len (all_unlined is) ≡ place_len is
place_unlined [] = refl
place_unlined (i ∷ is) = go (is_mark sign.OpenBracket i)
  where
    go : (b : Bool) → cond b (index_len 0 0 (all_unlined (i ∷ is))) (Some 0) ≡ cond b (index_len 0 0 (i ∷ is)) (Some 0)
    go true = index_same (i ∷ is) 0 0
    go false = refl

update_unlined : (x : List ℕ) (is : Items) → update x (all_unlined is) ≡ update x is
update_unlined x is =
    ap (λ (o : Option ℕ). changed_behind x (all_unlined is) o) (place_unlined is) ∙ behind_unlined x is (place_len is)

-- ---- what stands in a region

again_at_unlined : (o : Option ℕ) (is : Items) → again_at o (all_unlined is) ≡ again_at o is
again_at_unlined None is = refl
again_at_unlined (Some k) is =
    ap (λ (js : Items). cond (is_assigned js) (k + 2) 0) (drop_unlined k is)
    ∙ ap (λ (b : Bool). cond b (k + 2) 0) (first (drop k is))
  where
    first : (js : Items) → is_assigned (all_unlined js) ≡ is_assigned js
    first [] = refl
    first (j ∷ js) = refl

mention_on : (x : List ℕ) (op : Sign) (d : ℕ) (starts : Bool) (is : Items) (go go' : Onward) →
    ((d : ℕ) (s : Bool) (n : ℕ) → go' d s n ≡ go d s n) →
    starts && is_by op (update x (all_unlined is)) && go' d false (again_at (place_len (all_unlined is)) (all_unlined is))
    ≡ starts && is_by op (update x is) && go d false (again_at (place_len is) is)
mention_on x op d starts is go go' r =
    ap (λ (o : Option Sign). starts && is_by op o && go' d false (again_at (place_len (all_unlined is)) (all_unlined is)))
    (update_unlined x is)
    ∙ ap (λ (b : Bool). starts && is_by op (update x is) && b)
    (ap (λ (o : Option ℕ). go' d false (again_at o (all_unlined is))) (place_unlined is)
    ∙ ap (λ (n : ℕ). go' d false n) (again_at_unlined (place_len is) is) ∙ r d false (again_at (place_len is) is))

mention_unlined : (x : List ℕ) (op : Sign) (d : ℕ) (starts : Bool) (n : ℕ) (is : Items) (go go' : Onward) →
    ((d : ℕ) (s : Bool) (n : ℕ) → go' d s n ≡ go d s n) →
    mention x op d starts n (all_unlined is) go' ≡ mention x op d starts n is go
mention_unlined x op d starts (suc zero) is go go' r = r d false 0
mention_unlined x op d starts zero is go go' r = mention_on x op d starts is go go' r
mention_unlined x op d starts (suc (suc n)) is go go' r = mention_on x op d starts is go go' r

other_unlined : (d n : ℕ) (i : Item Terminal) (is : Items) (go go' : Onward) →
    ((d : ℕ) (s : Bool) (n : ℕ) → go' d s n ≡ go d s n) → other d n (unlined i) (all_unlined is) go' ≡ other d n i is go
other_unlined d n i is go go' r =
    same_if (opens_part i) _ _ _ _ (r _ _ _)
    (same_if (is_mark sign.CloseBrace i) _ _ _ _
    (ap (λ (b : Bool). cond b (go' (d - 1) true (n - 1)) true) (goes_unlined d is) ∙ same_if (goes_on d is) _ _ _ _ (r _ _ _) refl)
    (same_if (is_mark sign.CloseParen i) _ _ _ _ (r _ _ _)
    (same_if (is_mark sign.Semicolon i && (d == 0)) _ _ _ _ refl (r _ _ _))))

summed_unlined : (x : List ℕ) (op : Sign) (is : Items) (d : ℕ) (starts : Bool) (n : ℕ) →
    is_summed x op d starts n (all_unlined is) ≡ is_summed x op d starts n is
summed_unlined x op [] d starts n = refl
summed_unlined x op (i ∷ is) d starts n =
    same_if (is_directive i.terminal) _ _ _ _ (summed_unlined x op is d starts n)
    (same_if (same (Name x) i.terminal) _ _ _ _
    (ap (λ (js : Items). mention x op d starts n js (λ d s n. is_summed x op d s n (all_unlined is))) (bare_unlined is)
    ∙ mention_unlined x op d starts n (bare is) (λ d s n. is_summed x op d s n is)
    (λ d s n. is_summed x op d s n (all_unlined is)) (λ d s n. summed_unlined x op is d s n))
    (other_unlined d n i is (λ d s n. is_summed x op d s n is) (λ d s n. is_summed x op d s n (all_unlined is))
    (λ d s n. summed_unlined x op is d s n)))

-- ---- the greater or the lesser of two numbers

flat_unlined : (n : ℕ) (is : Items) → flat n (all_unlined is) ≡ flat n is
flat_unlined zero is = refl
flat_unlined (suc n) [] = refl
flat_unlined (suc n) (i ∷ is) =
    go (is_round i.terminal) (if is_boundary i.terminal then n else suc n) (λ k. flat_unlined k is)
  where
    go : (b : Bool) (m : ℕ) → ((k : ℕ) → flat k (all_unlined is) ≡ flat k is) →
        cond b (flat (suc n) (all_unlined is)) (i.terminal ∷ flat m (all_unlined is))
        ≡ cond b (flat (suc n) is) (i.terminal ∷ flat m is)
    go true m ih = ih (suc n)
    go false m ih = ap (λ (ts : List Terminal). i.terminal ∷ ts) (ih m)

extreme_unlined : (is : Items) → extreme_at (all_unlined is) ≡ extreme_at is
extreme_unlined is = ap extreme_of (flat_unlined 6 is)

allowed_unlined : (x : List ℕ) (g starts : Bool) (n : ℕ) (i : Item Terminal) (is : Items) →
    allowed_at x g starts n (unlined i) (all_unlined is) ≡ allowed_at x g starts n i is
allowed_unlined x g starts n i is =
    ap (λ (o : Option Extreme). cond (starts && same (Fixed If) i.terminal) (allowed x g n o) n) (extreme_unlined is)

allowed_goes : (n : ℕ) (go go' : ℕ → Bool) → ((k : ℕ) → go' k ≡ go k) → allowed_on n go' ≡ allowed_on n go
allowed_goes zero go go' h = refl
allowed_goes (suc n) go go' h = h n

gathered_unlined : (x : List ℕ) (g : Bool) (is : Items) (d : ℕ) (starts : Bool) (n : ℕ) →
    is_gathered x g d starts n (all_unlined is) ≡ is_gathered x g d starts n is
gathered_unlined x g [] d starts n = refl
gathered_unlined x g (i ∷ is) d starts n =
    same_if (is_directive i.terminal) _ _ _ _ (gathered_unlined x g is d starts n)
    (same_if (same (Name x) i.terminal) _ _ _ _
    (allowed_goes n (λ k. is_gathered x g d false k is) (λ k. is_gathered x g d false k (all_unlined is))
    (λ k. gathered_unlined x g is d false k))
    (other_unlined d 0 i is (λ d s k. is_gathered x g d s (allowed_at x g starts n i is) is)
    (λ d s k. is_gathered x g d s (allowed_at x g starts n (unlined i) (all_unlined is)) (all_unlined is))
    (λ d s k. ap (λ (m : ℕ). is_gathered x g d s m (all_unlined is)) (allowed_unlined x g starts n i is)
    ∙ gathered_unlined x g is d s (allowed_at x g starts n i is))))

reduced_by_unlined : (x : List ℕ) (op : Operation) (is : Items) → is_reduced x op (all_unlined is) ≡ is_reduced x op is
reduced_by_unlined x (BySign op) is = summed_unlined x op is 0 false 0
reduced_by_unlined x (ByExtreme g) is = gathered_unlined x g is 0 false 0

all_summed_unlined : (xs : Names) (op : Operation) (is : Items) → are_summed xs op (all_unlined is) ≡ are_summed xs op is
all_summed_unlined [] op is = refl
all_summed_unlined (x ∷ xs) op is =
    ap (λ (b : Bool). b && are_summed xs op (all_unlined is)) (reduced_by_unlined x op is)
    ∙ ap (λ (b : Bool). is_reduced x op is && b) (all_summed_unlined xs op is)

-- ---- lines

taken_unlined : (ts : List Lexeme) (is : Items) (o : Option Reduction) → taken ts (all_unlined is) o ≡ taken ts is o
taken_unlined ts is None = refl
taken_unlined ts is (Some r) =
    ap (λ (b : Bool). taken_if b) (all_summed_unlined r.names r.op is)
  where
    taken_if : Bool → Option Reduction
    taken_if b = cond (b && mapped_alike) (Some r) None
      where
        mapped_alike : Bool
        mapped_alike = all_mapped r.names ts || none_mapped r.names ts

reduced_unlined : (ts : List Lexeme) (is : Items) (k : ℕ) (ps : List Placed) → reduced ts (all_unlined is) k ps ≡ reduced ts is k ps
reduced_unlined ts is k [] = refl
reduced_unlined ts is k (p ∷ ps) = step k (λ n. reduced_unlined ts is n ps)
  where
    step : (k : ℕ) → ((n : ℕ) → reduced ts (all_unlined is) n ps ≡ reduced ts is n ps) →
        token_on ts (all_unlined is) k p ps (λ n. reduced ts (all_unlined is) n ps) ≡ token_on ts is k p ps (λ n. reduced ts is n ps)
    step (suc k) ih = ih k
    step zero ih =
        ap (λ (o : Option Reduction). clause_on ts p o (λ n. reduced ts (all_unlined is) n ps))
        (taken_unlined ts is (reduction_at (lexemes (p ∷ ps))))
        ∙ clause (taken_at ts is (lexemes (p ∷ ps)))
      where
        clause : (o : Option Reduction) → clause_on ts p o (λ n. reduced ts (all_unlined is) n ps) ≡ clause_on ts p o (λ n. reduced ts is n ps)
        clause None = ap (λ (qs : List Placed). p ∷ qs) (ih 0)
        clause (Some r) = choice (all_mapped r.names ts)
          where
            choice : (b : Bool) → cond b (reduced ts (all_unlined is) (r.len - 1) ps)
                (mapped_words p.column ++ reduced ts (all_unlined is) 3 ps)
                ≡ cond b (reduced ts is (r.len - 1) ps) (mapped_words p.column ++ reduced ts is 3 ps)
            choice true = ih (r.len - 1)
            choice false = ap (λ (qs : List Placed). mapped_words p.column ++ qs) (ih 3)

names_unlined : (ts : List Lexeme) (is : Items) (us : List Lexeme) → summed ts (all_unlined is) us ≡ summed ts is us
names_unlined ts is [] = refl
names_unlined ts is (u ∷ us) =
    ap (λ (o : Option Reduction). with_names o (summed ts (all_unlined is) us))
    (taken_unlined ts is (reduction_at (u ∷ us)))
    ∙ ap (λ (xs : Names). with_names (taken_at ts is (u ∷ us)) xs) (names_unlined ts is us)

named_unlined : (t : Terminal) (is : Items) → named_update t (all_unlined is) ≡ named_update t is
named_unlined (Name x) is = ap is_some (update_unlined x is)
named_unlined (Fixed w) is = refl
named_unlined (Mark s) is = refl
named_unlined (Num n) is = refl
named_unlined (Line ts) is = refl
named_unlined Unknown is = refl
named_unlined Unworked is = refl
named_unlined End is = refl

has_unlined : (is : Items) → has_update (all_unlined is) ≡ has_update is
has_unlined [] = refl
has_unlined (i ∷ is) = named_unlined i.terminal is

has_extreme_unlined : (is : Items) → has_extreme (all_unlined is) ≡ has_extreme is
has_extreme_unlined [] = refl
has_extreme_unlined (i ∷ is) =
    ap (λ (o : Option Extreme). same (Fixed If) i.terminal && is_short o) (extreme_unlined is)

updated_unlined : (t : Terminal) (is : Items) → is_updated t (all_unlined is) ≡ is_updated t is
updated_unlined (Name x) is = ap is_commuting (update_unlined x is)
updated_unlined (Fixed w) is = refl
updated_unlined (Mark s) is = refl
updated_unlined (Num n) is = refl
updated_unlined (Line ts) is = refl
updated_unlined Unknown is = refl
updated_unlined Unworked is = refl
updated_unlined End is = refl

begun_unlined : (xs : Names) (i : Item Terminal) (is : Items) → is_changed xs (unlined i) (all_unlined is) ≡ is_changed xs i is
begun_unlined xs i is =
    same_if (same (Fixed If) i.terminal) _ _ _ _ (ap (is_extreme xs) (extreme_unlined is))
    (ap (λ (b : Bool). is_named xs i.terminal && b)
    (ap (is_updated i.terminal) (bare_unlined is) ∙ updated_unlined i.terminal (bare is)))

region_unlined : (xs : Names) (d : ℕ) (i : Item Terminal) (is : Items) → behind xs d (unlined i) (all_unlined is) ≡ behind xs d i is
region_unlined xs d i is =
    ap (λ (b : Bool). cond (opens_part i) (Inside xs (d + 1) (is_boundary i.terminal))
    (cond (is_mark sign.CloseBrace i) (cond b (Inside xs (d - 1) true) Outside)
    (cond (is_mark sign.CloseParen i) (Inside xs (d - 1) false)
    (cond (is_mark sign.Semicolon i && (d == 0)) Outside (Inside xs d (is_boundary i.terminal)))))) (goes_unlined d is)

abbrev GoesAlike : OnRegion → OnRegion → Type 0
GoesAlike go' go = (r : Region) → AreUnlined (go' r) (go r)

chosen : (b : Bool) (x y x' y' : Items) → AreUnlined x' x → AreUnlined y' y → AreUnlined (cond b x' y') (cond b x y)
chosen true x y x' y' h k = h
chosen false x y x' y' h k = k

marked_unlined : (r : Region) (i : Item Terminal) (is : Items) (go go' : OnRegion) → GoesAlike go' go →
    AreUnlined (marked r (unlined i) (all_unlined is) go') (marked r i is go)
marked_unlined Outside i is go go' h = one i _ _ (h Outside)
marked_unlined (Inside xs d starts) i is go go' h =
    ap (λ (r : Region). cond (starts && is_changed xs (unlined i) (all_unlined is)) (mark_at (unlined i) ∷ unlined i ∷ go' r)
    (unlined i ∷ go' r)) (region_unlined xs d i is)
    ∙ ap (λ (b : Bool). cond (starts && b) (mark_at (unlined i) ∷ unlined i ∷ go' (behind xs d i is))
    (unlined i ∷ go' (behind xs d i is))) (begun_unlined xs i is)
    ∙ chosen (starts && is_changed xs i is) _ _ _ _
    (one (mark_at i) (i ∷ go (behind xs d i is)) (unlined i ∷ go' (behind xs d i is)) token) token
  where
    token : AreUnlined (unlined i ∷ go' (behind xs d i is)) (i ∷ go (behind xs d i is))
    token = one i (go (behind xs d i is)) (go' (behind xs d i is)) (h (behind xs d i is))

line_unlined : (i : Item Terminal) (ts : List Lexeme) (is : Items) (r : Region) (go go' : OnRegion) → GoesAlike go' go →
    AreUnlined (line_on (unlined i) ts (all_unlined is) r go') (line_on i ts is r go)
line_unlined i ts is r go go' h =
    chosen (is_combined ts) _ _ _ _
    (ap (λ (ps : List Placed). with_tokens (unlined i) ts ps ∷ go' (Inside (summed ts (all_unlined is) ts) 0 false))
    (reduced_unlined ts is 0 (placed_of ts i.columns))
    ∙ ap (λ (xs : Names). with_tokens (unlined i) ts (reduced ts is 0 (placed_of ts i.columns)) ∷ go' (Inside xs 0 false))
    (names_unlined ts is ts)
    ∙ one (with_tokens i ts (reduced ts is 0 (placed_of ts i.columns))) _ _ (h (Inside (summed ts is ts) 0 false)))
    (chosen (is_atomic ts) _ _ _ _
    (ap (λ (js : Items). with_tokens (unlined i) ts (atomic_tokens (has_update js) (placed_of ts i.columns)) ∷ go' r) (bare_unlined is)
    ∙ ap (λ (b : Bool). with_tokens (unlined i) ts (atomic_tokens b (placed_of ts i.columns)) ∷ go' r) (has_unlined (bare is))
    ∙ one (with_tokens i ts (atomic_tokens (has_update (bare is)) (placed_of ts i.columns))) _ _ (h r))
    (ap (λ (b : Bool). cond (is_compare ts && b) (with_tokens (unlined i) ts (atomic_tokens true (placed_of ts i.columns)) ∷ go' r)
    (unlined i ∷ go' r)) (has_extreme_unlined is)
    ∙ chosen (is_compare ts && has_extreme is) _ _ _ _
    (one (with_tokens i ts (atomic_tokens true (placed_of ts i.columns))) _ _ (h r)) (one i _ _ (h r))))

directive_unlined : (i : Item Terminal) (t : Terminal) (is : Items) (r : Region) (go go' : OnRegion) → GoesAlike go' go →
    AreUnlined (directive_on (unlined i) t (all_unlined is) r go') (directive_on i t is r go)
directive_unlined i (Line ts) is r go go' h = line_unlined i ts is r go go' h
directive_unlined i (Fixed w) is r go go' h = one i _ _ (h r)
directive_unlined i (Mark s) is r go go' h = one i _ _ (h r)
directive_unlined i (Name x) is r go go' h = one i _ _ (h r)
directive_unlined i (Num n) is r go go' h = one i _ _ (h r)
directive_unlined i Unknown is r go go' h = one i _ _ (h r)
directive_unlined i Unworked is r go go' h = one i _ _ (h r)
directive_unlined i End is r go go' h = one i _ _ (h r)

pub commuting_unlined : (is : Items) (r : Region) → AreUnlined (commuting r (all_unlined is)) (commuting r is)
commuting_unlined [] r = refl
commuting_unlined (i ∷ is) r =
    chosen (is_directive i.terminal) _ _ _ _
    (directive_unlined i i.terminal is r (λ r. commuting r is) (λ r. commuting r (all_unlined is)) (λ r. commuting_unlined is r))
    (marked_unlined r i is (λ r. commuting r is) (λ r. commuting r (all_unlined is)) (λ r. commuting_unlined is r))
