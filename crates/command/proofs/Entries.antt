-- What the getters of the matches read, as the entries of the definitions have it.
use Rattle.std.proofs.Common.{◌≡◌, ◌∙◌, ◌≤◌, ap, ℕ, Bool, true, false, List, [], Option, Some, None, refl, sym, subst, codes, option_map}
use Rattle.std.specs.Prelude.{Result, Ok, Err, IfSome, unwrap_or}
use Rattle.std.specs.Str.Parse.{ParsesUnsigned, digits_value, without_leading_plus}
use Rattle.std.specs.Borrow.{Bor}
use Rattle.clap.specs.Matches.{ReadsOne, first_value, one_text}
use Rattle.clap.specs.Values.{IsUnsignedIn}
use Rattle.clap.specs.Walk.{Text, one_of, rows_of}
use Rattle.clap.specs.declared.parser.matches.Found.{Found}
use Rattle.clap.proofs.WalkLemmas.{first_value-rows, one_text-rows}
use Rattle.command.specs.CommandLine.{IsFlag, IsNumber, text_in}

-- the text of an argument, or none of its bytes
pub text_is : (f : Found) (id : Text) (r : Option (Bor Text)) → option_map (λ s. s.now) r ≡ first_value f id
    → unwrap_or (option_map (λ s. s.now) r) [] ≡ text_in id (rows_of f)
text_is f id r e = ap (λ (o : Option Text). unwrap_or o []) (e ∙ first_value-rows f id)

-- what a number is read as
abbrev Reads : {E : Type 0} → (List ℕ → Result ℕ E → Type 0) → Type 0
Reads {E} G = (u : Text) (x : Result ℕ E) → G u x → ParsesUnsigned 64 10 u x

-- a text in the range of an option is read as its number
read_is : {E : Type 0} (G : List ℕ → Result ℕ E → Type 0) (least most default : ℕ) (t : Text) (r : Option ℕ) → Reads G → ReadsOne G t r
    → IsUnsignedIn least most t → (r ≡ Some (digits_value 10 (without_leading_plus t)))
read_is G least most default t (Some v) only h fits = ap (λ n. Some n) (only t (Ok v) h).1
read_is G least most default t None only h fits = absurd (only t (Err h.0) h.1 (fits.0, fits.1))

-- the number of an option, or its default
pub number_is : {E : Type 0} (G : List ℕ → Result ℕ E → Type 0) (f : Found) (id : Text) (least most default : ℕ) (r : Option ℕ) → Reads G
    → (one_text f id ≡ None → r ≡ None) → ((t : Text) → one_text f id ≡ Some t → ReadsOne G t r)
    → IsNumber least most default (one_of id (rows_of f)) (unwrap_or r default)
number_is G f id least most default r only none value =
    subst (λ (o : Option Text). IsNumber least most default o (unwrap_or r default)) (one_text-rows f id) (record {
      given = go (one_text f id) refl;
      left_out = λ e. ap (λ (o : Option ℕ). unwrap_or o default) (none e);
    })
  where
    go : (o : Option Text) → one_text f id ≡ o
        → IfSome o (λ t. IsUnsignedIn least most t → unwrap_or r default ≡ digits_value 10 (without_leading_plus t))
    go None e = tt
    go (Some t) e = λ fits. ap (λ (o : Option ℕ). unwrap_or o default) (read_is G least most default t r only (value t e) fits)

-- a number that is the option's where that lies in its range
pub same_in_range : (least most default : ℕ) (text : Option Text) (v n : ℕ) → least ≤ default → default ≤ most → (least ≤ v → v ≤ most → n ≡ v)
    → IsNumber least most default text v → IsNumber least most default text n
same_in_range least most default text v n low high same h = record {
  given = go text h.given;
  left_out = λ e. at default low high (h.left_out e);
}
  where
    at : (m : ℕ) → least ≤ m → m ≤ most → v ≡ m → n ≡ m
    at m low high is = same (subst (λ x. least ≤ x) (sym is) low) (subst (λ x. x ≤ most) (sym is) high) ∙ is

    go : (o : Option Text) → IfSome o (λ t. IsUnsignedIn least most t → v ≡ digits_value 10 (without_leading_plus t))
        → IfSome o (λ t. IsUnsignedIn least most t → n ≡ digits_value 10 (without_leading_plus t))
    go None h = tt
    go (Some t) h = λ fits. at (digits_value 10 (without_leading_plus t)) fits.2 fits.3 (h fits)

-- whether a flag is given
pub flag_is : (f : Found) (id : Text) (b : Bool) → (one_text f id ≡ Some (codes "true") → b ≡ true) → (one_text f id ≡ Some (codes "false") → b ≡ false)
    → IsFlag (one_of id (rows_of f)) b
flag_is f id b given left = subst (λ (o : Option Text). IsFlag o b) (one_text-rows f id) (record { given = given; left_out = left })
