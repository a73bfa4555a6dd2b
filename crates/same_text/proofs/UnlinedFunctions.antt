-- Functions are expanded without a look at the lines of the tokens.
use Rattle.std.proofs.Common.{◌≡◌, ℕ, zero, suc, ◌+◌, ◌-◌, Bool, true, false, cond, List, [], ◌∷◌, ◌++◌, length, map, Option, Some, None, refl, ap, ap₂, ◌∙◌}
use Rattle.std.specs.Prelude.{◌&&◌, ◌||◌, not, nat_lt, codes}
use Rattle.std.specs.Option.{option_map}
use Rattle.c_tokens.specs.declared.kind.Sign.TheVariants as sign
use Rattle.c_grammar.specs.Lexeme.{Uint64}
use Rattle.c_grammar.specs.Terminal.{Terminal, Fixed, Name, same}
use Rattle.c_grammar.specs.Texts.{Item}
use Rattle.c_grammar.specs.Blocks.{Items, is_directive, bare}
use Rattle.c_grammar.specs.Changes.{is_mark, is_boundary}
use Rattle.c_grammar.specs.Constants.{Names, is_among, is_name, worked}
use Rattle.c_grammar.specs.Functions.{array_names, begins_declaration, Function, Functions, Known, Onward, Others, Parameter, Puts, Returned, Where, Outside, InHead, InBody, added, called, closed, declared_in, defined, expanded, function_with, has_function, has_value, headed_or, in_body, in_head, is_assigned, is_assigning, is_main, is_specifier, is_static, is_step, known_names, line_in, may_be_added, most_known, most_lines, name_in, names_in, nothing_known, other_name, out_of_body, outside, parameters_from, plain, put_all, puts_from, raw_in, returned, returned_by, specifies, token_in, value_at, value_ended, with_function, with_name, without_value}
use Rattle.c_grammar.specs.FunctionHeads.{Declared, Headed, head_at, is_type, parameters, Gives, NoValue, AValue, AStatus}
use Rattle.c_grammar.specs.Unspelled.{most_names, unspelled}
use Rattle.same_text.specs.Laws.{unlined}
use Rattle.c_grammar.specs.Presence.{guarded}
use Rattle.same_text.proofs.UnlinedPresence.{guarded_unlined}
use Rattle.same_text.proofs.Unlined.{all_unlined, AreUnlined, either, one, some, bare_unlined}
use Rattle.same_text.proofs.UnlinedCalls.{function_unlined, called_unlined}
use Rattle.same_text.proofs.UnlinedPassed.{picked, put_unlined, more_unlined, length_unlined, bare_value}
use Rattle.same_text.proofs.UnlinedConstants.{worked_unlined}
use Rattle.same_text.proofs.UnlinedHeads.{head_same}

-- ---- names

name_same : (is : Items) → name_in (all_unlined is) ≡ name_in is
name_same [] = refl
name_same (i ∷ is) = refl

declared_same : (is : Items) → declared_in (all_unlined is) ≡ declared_in is
declared_same [] = refl
declared_same (i ∷ is) =
    ap₂ (λ (v w : Names). cond (begins_declaration i.terminal) v [] ++ w) (name_same is) (declared_same is)

names_same : (h : Headed) (body : Items) → names_in h (all_unlined body) ≡ names_in h body
names_same h body =
    ap (λ (v : Names). map (λ d. d.name) h.declared ++ v)
    (ap declared_in (bare_unlined body) ∙ declared_same (bare body))

assigned_same : (x : List ℕ) (is : Items) → is_assigned x (all_unlined is) ≡ is_assigned x is
assigned_same x [] = refl
assigned_same x (i ∷ []) = refl
assigned_same x (i ∷ j ∷ is) =
    ap
    (λ (b : Bool).
    (same (Name x) i.terminal && is_assigning j.terminal) || (is_step i.terminal && same (Name x) j.terminal) || b)
    (assigned_same x (j ∷ is))

from_same : (k : ℕ) (body : Items) (ds : List Declared) →
    parameters_from k (all_unlined body) ds ≡ parameters_from k body ds
from_same k body [] = refl
from_same k body (d ∷ ds) =
    ap₂
    (λ (b : Bool) (ps : List Parameter). record { name = unspelled k; sort = d.sort; assigned = b } ∷ ps)
    (assigned_same d.name body) (from_same (k + 1) body ds)

-- ---- a function with its names and calls

abbrev known_unlined : Known → Known
known_unlined k =
    record { functions = map function_unlined k.functions; globals = k.globals; next = k.next; room = k.room }

abbrev returned_unlined : Returned → Returned
returned_unlined r = record { front = all_unlined r.front; value = all_unlined r.value }

functions_same : (fs : Functions) → map (λ f. f.name) (map function_unlined fs) ≡ map (λ f. f.name) fs
functions_same [] = refl
functions_same (f ∷ fs) = ap (λ (v : Names). f.name ∷ v) (functions_same fs)

known_same : (k : Known) → known_names (known_unlined k) ≡ known_names k
known_same k = ap (λ (v : Names). k.globals ++ v) (functions_same k.functions)

-- by its names and by what is known
abbrev made : Known → Headed → Returned → Names → Names → Functions → List Parameter → Function
made k h r names known fs ps = record {
  name = h.name;
  parameters = ps;
  body = called k.globals fs true k.room 0
      (guarded (array_names k.next h.declared) (put_all (puts_from k.next names) (other_name known) r.front));
  value = put_all (puts_from k.next names) (other_name known) r.value;
}

made_same : (k : Known) (h : Headed) (r : Returned) (names known : Names) (ps : List Parameter) →
    made k h (returned_unlined r) names known (map function_unlined k.functions) ps
    ≡ function_unlined (made k h r names known k.functions ps)
made_same k h r names known ps =
    let arrays : Names = array_names k.next h.declared in
    let puts : Puts = puts_from k.next names in
    let other : Others = other_name known in
    ap₂ (λ (b v : Items). record { name = h.name; parameters = ps; body = b; value = v })
    (ap (λ (is : Items). called k.globals (map function_unlined k.functions) true k.room 0 (guarded arrays is))
    (put_unlined puts other r.front)
    ∙ ap (called k.globals (map function_unlined k.functions) true k.room 0) (guarded_unlined arrays (put_all puts other r.front))
    ∙ called_unlined (guarded arrays (put_all puts other r.front)) k.globals k.functions true k.room 0)
    (put_unlined puts other r.value)

function_same : (k : Known) (h : Headed) (r : Returned) →
    function_with (known_unlined k) h (returned_unlined r) ≡ function_unlined (function_with k h r)
function_same k h r =
    let s : Returned = returned_unlined r in
    let fs : Functions = map function_unlined k.functions in
    let names : Names = names_in h r.front in
    ap₂ (λ (v w : Names). made k h s v w fs (parameters_from k.next (bare (all_unlined r.front)) h.declared))
    (names_same h r.front) (known_same k)
    ∙ ap (made k h s names (known_names k) fs)
    (ap (λ (v : Items). parameters_from k.next v h.declared) (bare_unlined r.front)
    ∙ from_same k.next (bare r.front) h.declared)
    ∙ made_same k h r names (known_names k) (parameters_from k.next (bare r.front) h.declared)

functions_more : (fs : Functions) (f : Function) →
    map function_unlined fs ++ function_unlined f ∷ [] ≡ map function_unlined (fs ++ f ∷ [])
functions_more [] f = refl
functions_more (g ∷ fs) f = ap (λ (v : Functions). function_unlined g ∷ v) (functions_more fs f)

with_same : (k : Known) (n : ℕ) (f : Function) →
    with_function (known_unlined k) n (function_unlined f) ≡ known_unlined (with_function k n f)
with_same k n f =
    ap₂
    (λ (fs : Functions) (l : ℕ).
    record { functions = fs; globals = k.globals; next = k.next + n; room = k.room - l })
    (functions_more k.functions f) (ap length (bare_unlined f.body) ∙ length_unlined (bare f.body))

may_same : (k : Known) (h : Headed) (front : Items) →
    may_be_added (known_unlined k) h (all_unlined front) ≡ may_be_added k h front
may_same k h front =
    ap₂
    (λ (v w : Names).
    not (is_among v h.name) && nat_lt (length v) most_known && nat_lt (k.next + length w) most_names)
    (known_same k) (names_same h front)

added_same : (k : Known) (h : Headed) (o : Option Returned) →
    added (known_unlined k) h (option_map returned_unlined o) ≡ option_map known_unlined (added k h o)
added_same k h None = refl
added_same k h (Some r) =
    let n : ℕ = length (names_in h r.front) in
    ap₂ (λ (b : Bool) (l : Known). cond b (Some l) None) (may_same k h r.front)
    (ap₂ (λ (v : Names) (f : Function). with_function (known_unlined k) (length v) f) (names_same h r.front)
    (function_same k h r)
    ∙ with_same k n (function_with k h r))
    ∙ picked known_unlined (may_be_added k h r.front) (Some (with_function k n (function_with k h r))) None _ _ refl
    refl

-- ---- what is returned

abbrev ReturnsSame : Option Returned → Option Returned → Type 0
ReturnsSame r' r = r' ≡ option_map returned_unlined r

ended_same : (front value is : Items) →
    ReturnsSame (value_ended (all_unlined front) (all_unlined value) (all_unlined is)) (value_ended front value is)
ended_same front value is =
    ap₂
    (λ (b c : Bool). cond (b && not c)
    (Some (record { front = all_unlined front; value = all_unlined value ++ all_unlined is })) None)
    (bare_value value) (bare_value is)
    ∙ picked returned_unlined (has_value (bare value) && not (has_value (bare is))) _ None _ None
    (ap (λ (v : Items). Some (record { front = all_unlined front; value = v }))
    (some value (all_unlined value) is (all_unlined is) refl refl))
    refl

value_same : (is front value : Items) →
    ReturnsSame (value_at (all_unlined front) (all_unlined value) (all_unlined is)) (value_at front value is)
value_same [] front value = refl
value_same (i ∷ is) front value =
    picked returned_unlined (is_mark sign.Semicolon i) _ _ _ _ (ended_same front value is)
    (picked returned_unlined (is_boundary i.terminal) None _ None _ refl
    (ap (λ (v : Items). value_at (all_unlined front) v (all_unlined is)) (more_unlined value i)
    ∙ value_same is front (value ++ i ∷ [])))

returned_same : (is front : Items) → ReturnsSame (returned (all_unlined front) (all_unlined is)) (returned front is)
returned_same [] front = refl
returned_same (i ∷ is) front =
    picked returned_unlined (same (Name (codes "return")) i.terminal) _ _ _ _ (value_same is front [])
    (ap (λ (v : Items). returned v (all_unlined is)) (more_unlined front i) ∙ returned_same is (front ++ i ∷ []))

without_same : (o o' : Option Returned) → ReturnsSame o' o → ReturnsSame (without_value o') (without_value o)
without_same None o' h = ap without_value h
without_same (Some r) o' h = ap without_value h

returned_by_same : (gives : Gives) (body : Items) →
    ReturnsSame (returned_by gives (all_unlined body)) (returned_by gives body)
returned_by_same NoValue body = refl
returned_by_same AValue body = returned_same body []
returned_by_same AStatus body = without_same (returned [] body) (returned [] (all_unlined body)) (returned_same body [])

-- ---- the source

abbrev where_unlined : Where → Where
where_unlined (Outside begins) = Outside begins
where_unlined (InHead h raw n) = InHead h (all_unlined raw) n
where_unlined (InBody h raw body depth lines) = InBody h (all_unlined raw) (all_unlined body) depth lines

abbrev GoesSame : Onward → Onward → Type 0
GoesSame go' go = (k : Known) (p : Where) → AreUnlined (go' (known_unlined k) (where_unlined p)) (go k p)

named_same : (k : Known) (i : Item Terminal) (is : Items) →
    with_name (known_unlined k) (unlined i) (all_unlined is) ≡ known_unlined (with_name k i is)
named_same k i is =
    ap
    (λ (v : Names). record {
      functions = map function_unlined k.functions;
      globals = k.globals ++ cond (same (Fixed Uint64) i.terminal) v [];
      next = k.next;
      room = k.room;
    })
    (name_same is)

specifies_same : (is : Items) → specifies (all_unlined is) ≡ specifies is
specifies_same [] = refl
specifies_same (i ∷ is) = refl

module _ (go go' : Onward) (r : GoesSame go' go) where
  plain_same : (k : Known) (i : Item Terminal) (is : Items) →
      AreUnlined (plain (known_unlined k) (unlined i) (all_unlined is) go') (plain k i is go)
  plain_same k i is =
      ap (λ (l : Known). unlined i ∷ go' l (Outside (is_boundary i.terminal))) (named_same k i is)
      ∙ one i _ _ (r (with_name k i is) (Outside (is_boundary i.terminal)))

  headed_or_same : (k : Known) (i : Item Terminal) (is : Items) (o : Option Headed) →
      AreUnlined (headed_or (known_unlined k) (unlined i) (all_unlined is) o go') (headed_or k i is o go)
  headed_or_same k i is None = plain_same k i is
  headed_or_same k i is (Some h) = r k (InHead h (i ∷ []) h.len)

  outside_same : (k : Known) (begins : Bool) (i : Item Terminal) (is : Items) →
      AreUnlined (outside (known_unlined k) begins (unlined i) (all_unlined is) go') (outside k begins i is go)
  outside_same k false i is = plain_same k i is
  outside_same k true i is =
      either (is_specifier i.terminal && specifies is) _ _ _ _ _
      (ap (λ (b : Bool). is_specifier i.terminal && b) (specifies_same is)) (r k (Outside true))
      (ap (λ (o : Option Headed). headed_or (known_unlined k) (unlined i) (all_unlined is) o go')
      (head_same i.terminal is)
      ∙ headed_or_same k i is (head_at i.terminal is))

  in_head_same : (k : Known) (h : Headed) (raw : Items) (n : ℕ) →
      AreUnlined (in_head (known_unlined k) h (all_unlined raw) n go') (in_head k h raw n go)
  in_head_same k h raw zero = r k (InBody h raw [] 0 0)
  in_head_same k h raw (suc zero) = r k (InBody h raw [] 0 0)
  in_head_same k h raw (suc (suc n)) = r k (InHead h raw (suc n))

  closed_same : (k : Known) (raw : Items) (o : Option Known) →
      AreUnlined (closed (known_unlined k) (all_unlined raw) (option_map known_unlined o) go') (closed k raw o go)
  closed_same k raw None = some raw (all_unlined raw) _ _ refl (r k (Outside true))
  closed_same k raw (Some l) = r l (Outside true)

  -- with one more token of the body
  body_more : (k : Known) (h : Headed) (raw body : Items) (i : Item Terminal) (depth lines : ℕ) →
      AreUnlined (go' (known_unlined k) (InBody h (all_unlined raw) (all_unlined body ++ unlined i ∷ []) depth lines))
      (go k (InBody h raw (body ++ i ∷ []) depth lines))
  body_more k h raw body i depth lines =
      ap (λ (v : Items). go' (known_unlined k) (InBody h (all_unlined raw) v depth lines)) (more_unlined body i)
      ∙ r k (InBody h raw (body ++ i ∷ []) depth lines)

  out_same : (k : Known) (h : Headed) (raw body : Items) (depth : ℕ) (i : Item Terminal) →
      AreUnlined (out_of_body (known_unlined k) h (all_unlined raw) (all_unlined body) depth (unlined i) go')
      (out_of_body k h raw body depth i go)
  out_same k h raw body zero i =
      ap (λ (o : Option Known). closed (known_unlined k) (all_unlined raw) o go')
      (ap (added (known_unlined k) h) (returned_by_same h.gives body) ∙ added_same k h (returned_by h.gives body))
      ∙ closed_same k raw (added k h (returned_by h.gives body))
  out_same k h raw body (suc d) i = body_more k h raw body i d 0

  in_body_same : (k : Known) (h : Headed) (raw body : Items) (depth : ℕ) (i : Item Terminal) →
      AreUnlined (in_body (known_unlined k) h (all_unlined raw) (all_unlined body) depth (unlined i) go')
      (in_body k h raw body depth i go)
  in_body_same k h raw body depth i =
      either (is_mark sign.OpenBrace i) _ _ _ _ _ refl (body_more k h raw body i (depth + 1) 0)
      (either (is_mark sign.CloseBrace i) _ _ _ _ _ refl (out_same k h raw body depth i)
      (body_more k h raw body i depth 0))

  token_same : (k : Known) (p : Where) (i : Item Terminal) (is : Items) →
      AreUnlined (token_in (known_unlined k) (where_unlined p) (unlined i) (all_unlined is) go') (token_in k p i is go)
  token_same k (Outside begins) i is = outside_same k begins i is
  token_same k (InHead h raw n) i is =
      ap (λ (v : Items). in_head (known_unlined k) h v n go') (more_unlined raw i) ∙ in_head_same k h (raw ++ i ∷ []) n
  token_same k (InBody h raw body depth lines) i is =
      ap (λ (v : Items). in_body (known_unlined k) h v (all_unlined body) depth (unlined i) go') (more_unlined raw i)
      ∙ in_body_same k h (raw ++ i ∷ []) body depth i

  line_same : (k : Known) (p : Where) (i : Item Terminal) →
      AreUnlined (line_in (known_unlined k) (where_unlined p) (unlined i) go') (line_in k p i go)
  line_same k (Outside begins) i = one i _ _ (r k (Outside begins))
  line_same k (InHead h raw n) i = one i _ _ (r k (InHead h raw n))
  line_same k (InBody h raw body depth lines) i =
      either (nat_lt lines most_lines) _ _ _ _ _ refl
      (ap (λ (v : Items). go' (known_unlined k) (InBody h v (all_unlined body ++ unlined i ∷ []) depth (lines + 1)))
      (more_unlined raw i)
      ∙ body_more k h (raw ++ i ∷ []) body i depth (lines + 1))
      (one i _ _ (r k (InBody h raw body depth lines)))

raw_same : (p : Where) → AreUnlined (raw_in (where_unlined p)) (raw_in p)
raw_same (Outside begins) = refl
raw_same (InHead h raw n) = refl
raw_same (InBody h raw body depth lines) = refl

main_same : (p : Where) (i : Item Terminal) (is : Items) →
    is_main (where_unlined p) (unlined i) (all_unlined is) ≡ is_main p i is
main_same (Outside begins) i [] = refl
main_same (Outside begins) i (j ∷ is) = refl
main_same (InHead h raw n) i is = refl
main_same (InBody h raw body depth lines) i is = refl

defined_unlined : (is : Items) (k : Known) (p : Where) →
    AreUnlined (defined (known_unlined k) (where_unlined p) (all_unlined is)) (defined k p is)
unfolding defined
defined_unlined [] k p = raw_same p
defined_unlined (i ∷ is) k p = step (is_directive i.terminal) (λ k p. defined_unlined is k p)
  where
    go : Onward
    go = λ k p. defined k p is

    go' : Onward
    go' = λ k p. defined k p (all_unlined is)

    main : Items
    main = i ∷ called k.globals k.functions false k.room 0 is

    main' : Items
    main' = unlined i ∷ called k.globals (map function_unlined k.functions) false k.room 0 (all_unlined is)

    step : (b : Bool) → GoesSame go' go →
        AreUnlined
        (cond b (line_in (known_unlined k) (where_unlined p) (unlined i) go')
        (cond (is_main (where_unlined p) (unlined i) (bare (all_unlined is))) main'
        (token_in (known_unlined k) (where_unlined p) (unlined i) (bare (all_unlined is)) go')))
        (cond b (line_in k p i go) (cond (is_main p i (bare is)) main (token_in k p i (bare is) go)))
    step true ih = line_same go go' ih k p i
    step false ih =
        ap
        (λ (js : Items). cond (is_main (where_unlined p) (unlined i) js) main'
        (token_in (known_unlined k) (where_unlined p) (unlined i) js go'))
        (bare_unlined is)
        ∙ either (is_main p i (bare is)) _ _ _ _ _ (main_same p i (bare is))
        (one i _ _ (called_unlined is k.globals k.functions false k.room 0)) (token_same go go' ih k p i (bare is))

has_same : (is : Items) → has_function (all_unlined is) ≡ has_function is
has_same [] = refl
has_same (i ∷ []) = refl
has_same (i ∷ x ∷ []) = refl
has_same (i ∷ x ∷ o ∷ is) =
    ap (λ (b : Bool). (is_type i.terminal && is_name x.terminal && is_mark sign.OpenParen o) || b)
    (has_same (x ∷ o ∷ is))

static_same : (is : Items) → is_static (all_unlined is) ≡ is_static is
static_same [] = refl
static_same (i ∷ is) = ap (λ (b : Bool). is_specifier i.terminal || b) (static_same is)

pub expanded_unlined : (is : Items) → AreUnlined (expanded (all_unlined is)) (expanded is)
expanded_unlined is =
    either (has_function (bare is) || is_static (bare is)) _ _ _ _ _
    (ap (λ (js : Items). has_function js || is_static js) (bare_unlined is)
    ∙ ap₂ (λ (b c : Bool). b || c) (has_same (bare is)) (static_same (bare is)))
    (ap (worked [] [] 0) (defined_unlined is nothing_known (Outside true))
    ∙ worked_unlined (defined nothing_known (Outside true) is) [] [] 0)
    refl
