-- Tokens in two parts.
use Rattle.std.proofs.Common.{◌≡◌, ◌∙◌, ℕ, zero, suc, ◌≤◌, List, [], ◌∷◌, length, take, drop, refl, ap, arith}
use Rattle.c_terminals.specs.declared.token.Token.{Token}
use Rattle.c_terminals.specs.Seen.{seen, seen_all}

take_seen : (n : ℕ) (xs : List Token) → seen_all (take n xs) ≡ take n (seen_all xs)
take_seen zero xs = refl
take_seen (suc n) [] = refl
take_seen (suc n) (x ∷ xs) = ap (λ is. seen x ∷ is) (take_seen n xs)

drop_seen : (n : ℕ) (xs : List Token) → seen_all (drop n xs) ≡ drop n (seen_all xs)
drop_seen zero xs = refl
drop_seen (suc n) [] = refl
drop_seen (suc n) (x ∷ xs) = drop_seen n xs

pub front : (n : ℕ) (xs ys : List Token) → ys ≡ take n xs → seen_all ys ≡ take n (seen_all xs)
front n xs ys e = ap seen_all e ∙ take_seen n xs

pub back : (n : ℕ) (xs ys : List Token) → ys ≡ drop n xs → seen_all ys ≡ drop n (seen_all xs)
back n xs ys e = ap seen_all e ∙ drop_seen n xs

all_seen : (n : ℕ) (xs : List Token) → length xs ≤ n → seen_all xs ≡ take n (seen_all xs)
all_seen zero [] h = refl
all_seen zero (x ∷ xs) h = absurd (omega (arith, h))
all_seen (suc n) [] h = refl
all_seen (suc n) (x ∷ xs) h = ap (λ is. seen x ∷ is) (all_seen n xs (omega (arith, h)))

none_seen : (n : ℕ) (xs : List Token) → length xs ≤ n → [] ≡ drop n (seen_all xs)
none_seen zero [] h = refl
none_seen zero (x ∷ xs) h = absurd (omega (arith, h))
none_seen (suc n) [] h = refl
none_seen (suc n) (x ∷ xs) h = none_seen n xs (omega (arith, h))

take_whole : (xs : List Token) → take (length xs) xs ≡ xs
take_whole [] = refl
take_whole (x ∷ xs) = ap (λ ys. x ∷ ys) (take_whole xs)

drop_whole : (xs : List Token) → drop (length xs) xs ≡ []
drop_whole [] = refl
drop_whole (x ∷ xs) = drop_whole xs

pub all : (n : ℕ) (xs ys : List Token) → length xs ≤ n → ys ≡ take (length xs) xs → seen_all ys ≡ take n (seen_all xs)
all n xs ys h e = ap seen_all (e ∙ take_whole xs) ∙ all_seen n xs h

pub none : (n : ℕ) (xs ys : List Token) → length xs ≤ n → ys ≡ drop (length xs) xs → seen_all ys ≡ drop n (seen_all xs)
none n xs ys h e = ap seen_all (e ∙ drop_whole xs) ∙ none_seen n xs h
