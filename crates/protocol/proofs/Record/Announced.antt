-- The identifiers announced at the links, and with them the certified ones: how many, above zero, and what one more announcement changes.
use Rattle.std.specs.Prelude.{ℕ, zero, suc, ◌≤◌, ◌<◌, ◌≢◌, ◌≡◌, refl, Bool, true, false, not, List, [], ◌∷◌, length}
use Rattle.std.proofs.Common.{sym, ap₂, subst₂, ap, ◌∙◌, le_refl, arith, ne_eqb}
use Rattle.std.proofs.Math.Decide.{ℕ_discrete}
use Rattle.protocol.proofs.Links.Laws.{some_announces}
use Rattle.lists.specs.Choice.{choose}
use Rattle.lists.specs.Choice.Laws.{choose_ind, choose_yes, choose_no, and_both}
use Rattle.lists.specs.Lists.{nonzero}
use Rattle.lists.specs.Lists.Sets.{Inserted, here, there}
use Rattle.protocol.specs.declared.Link.{Link}
use Rattle.protocol.specs.declared.Base.{Base}
use Rattle.protocol.specs.Links.{announces}
use Rattle.protocol.specs.Record.{link_at, link_count, announced, certified}

pub announced_next : (k : ℕ) (at : ℕ → Link) → announces (at k) ≡ true → announced (suc k) at ≡ (at k).announce ∷ announced k at
unfolding announced
announced_next k at e = choose_yes _ _ e

pub announced_skip : (k : ℕ) (at : ℕ → Link) → announces (at k) ≡ false → announced (suc k) at ≡ announced k at
unfolding announced
announced_skip k at e = choose_no _ _ e

-- what both ways of the next place keep holds of all
pub announced_ind : (P : ℕ → List ℕ → Type 0) (at : ℕ → Link) → P 0 []
    → ((k : ℕ) → announces (at k) ≡ true → P k (announced k at) → P (suc k) ((at k).announce ∷ announced k at))
    → ((k : ℕ) → announces (at k) ≡ false → P k (announced k at) → P (suc k) (announced k at)) → (k : ℕ) → P k (announced k at)
unfolding announced
announced_ind P at none one skip zero = none
announced_ind P at none one skip (suc k) = go (announced_ind P at none one skip k)
  where
    go : P k (announced k at) → P (suc k) (choose (announces (at k)) ((at k).announce ∷ announced k at) (announced k at))
    go p = choose_ind (P (suc k)) (announces (at k)) (λ e. one k e p) (λ e. skip k e p)

pub length_announced : (k : ℕ) (at : ℕ → Link) → length (announced k at) ≤ k
length_announced k at =
    announced_ind (λ (j : ℕ) (l : List ℕ). length l ≤ j) at (omega arith) (λ j e h. omega arith) (λ j e h. omega arith) k

pub nonzero_announced : (k : ℕ) (at : ℕ → Link) → nonzero (announced k at) ≡ true
unfolding nonzero announces
nonzero_announced k at = announced_ind (λ (j : ℕ) (l : List ℕ). nonzero l ≡ true) at refl (λ j e h. and_both e h) (λ j e h. h) k

-- where nobody announces
pub announced_none : (k : ℕ) (at : ℕ → Link) → ((i : ℕ) → i < k → announces (at i) ≡ false) → announced k at ≡ []
unfolding announced
announced_none zero at none = refl
announced_none (suc k) at none = choose_no _ _ (none k (le_refl (suc k))) ∙ announced_none k at (λ i h. none i (omega arith))

-- where the same identifiers stand at each place
pub announced_same : (k : ℕ) (at new : ℕ → Link) → ((i : ℕ) → i < k → (new i).announce ≡ (at i).announce) → announced k new ≡ announced k at
unfolding announced announces
announced_same zero at new same = refl
announced_same (suc k) at new same = rw (same k (le_refl (suc k)), announced_same k at new (λ i h. same i (omega arith)))

-- where one link more announces
pub announced_more : (k : ℕ) (at new : ℕ → Link) (i g : ℕ) → i < k → announces (at i) ≡ false → 1 ≤ g → (new i).announce ≡ g
    → ((j : ℕ) → j ≢ i → new j ≡ at j) → Inserted g (announced k at) (announced k new)
announced_more zero at new i g h silent some is other = absurd (omega arith)
announced_more (suc k) at new i g h silent some is other = elim (ℕ_discrete k i) [
  | yes e ↦ subst₂ (Inserted g) (sym (announced_skip k at (ap (λ (j : ℕ). announces (at j)) e ∙ silent)))
      (sym (announced_next k new (some_announces (new k) (omega (arith, ap (λ (j : ℕ). (new j).announce) e))) ∙ first e)) here
  | no e ↦ rest e (announced_more k at new i g (omega arith) silent some is other)
]
  where
    first : k ≡ i → (new k).announce ∷ announced k new ≡ g ∷ announced k at
    first e = ap₂ ◌∷◌ (ap (λ (j : ℕ). (new j).announce) e ∙ is)
        (announced_same k at new (λ j l. ap (λ (x : Link). x.announce) (other j (λ q. omega (arith, q, e)))))

    rest : k ≢ i → Inserted g (announced k at) (announced k new) → Inserted g (announced (suc k) at) (announced (suc k) new)
    rest e I = go (announces (at k)) refl
      where
        same : announces (new k) ≡ announces (at k)
        same = ap announces (other k e)

        go : (t : Bool) → announces (at k) ≡ t → Inserted g (announced (suc k) at) (announced (suc k) new)
        go true p = subst₂ (Inserted g) (sym (announced_next k at p))
            (sym (announced_next k new (same ∙ p) ∙ ap (λ (x : Link). x.announce ∷ announced k new) (other k e))) (there I)
        go false p = subst₂ (Inserted g) (sym (announced_skip k at p)) (sym (announced_skip k new (same ∙ p))) I

-- ---- certified
pub nonzero_certified : (b : Base) → 1 ≤ b.own → nonzero (certified b) ≡ true
unfolding certified nonzero
nonzero_certified b h = and_both (ap not (ne_eqb b.own 0 (λ e. omega arith))) (nonzero_announced (link_count b) (link_at b))
