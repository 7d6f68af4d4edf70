-- What holds of each of a list, and which are among it.
use Rattle.std.specs.Prelude.{◌≡◌, ◌⊎◌, List, [], ◌∷◌, ◌++◌}
use Rattle.std.proofs.Common.{subst, inl, inr}
use Rattle.link_sets.specs.Statement.{Each}

abbrev pub Among : {A : Type 0} → A → List A → Type 0
Among x [] = ⊥
Among x (y ∷ l) = (y ≡ x) ⊎ Among x l

module _ {A : Type 0} where
  pub each_as : (P Q : A → Type 0) → ((x : A) → P x → Q x) → (l : List A) → Each P l → Each Q l
  each_as P Q f [] e = tt
  each_as P Q f (x ∷ l) e = (f x e.0, each_as P Q f l e.1)

  pub each_both : (P Q R : A → Type 0) → ((x : A) → P x → Q x → R x) → (l : List A) → Each P l → Each Q l → Each R l
  each_both P Q R f [] e g = tt
  each_both P Q R f (x ∷ l) e g = (f x e.0 g.0, each_both P Q R f l e.1 g.1)

  pub each_append : (P : A → Type 0) (l k : List A) → Each P l → Each P k → Each P (l ++ k)
  each_append P [] k e g = g
  each_append P (x ∷ l) k e g = (e.0, each_append P l k e.1 g)

  pub each_at : (P : A → Type 0) (x : A) (l : List A) → Each P l → Among x l → P x
  each_at P x [] e m = absurd m
  each_at P x (y ∷ l) e (inl q) = subst P q e.0
  each_at P x (y ∷ l) e (inr m) = each_at P x l e.1 m

  -- of a part of a list
  pub each_within : (P : A → Type 0) (s l : List A) → ((x : A) → Among x s → Among x l) → Each P l → Each P s
  each_within P s l part e = go s (λ x m. each_at P x l e (part x m))
    where
      go : (k : List A) → ((x : A) → Among x k → P x) → Each P k
      go [] f = tt
      go (x ∷ k) f = (f x (inl (λ i. x)), go k (λ y m. f y (inr m)))

  pub among_front : (x : A) (l k : List A) → Among x l → Among x (l ++ k)
  among_front x [] k m = absurd m
  among_front x (y ∷ l) k (inl e) = inl e
  among_front x (y ∷ l) k (inr m) = inr (among_front x l k m)

  pub among_back : (x : A) (l k : List A) → Among x k → Among x (l ++ k)
  among_back x [] k m = m
  among_back x (y ∷ l) k m = inr (among_back x l k m)
