-- A start and an arrival in the group are steps of the net as the argument knows them, and leave members of the group.
use Rattle.std.specs.Prelude.{ℕ, ◌-◌, ◌<◌, ◌≡◌, refl, ◌≢◌, ◌⊎◌, Bool, true, List, ◌++◌, length}
use Rattle.std.proofs.Common.{sym, ap, ◌∙◌, subst, subst₂, eq-eqb, ne_eqb}
use Rattle.std.proofs.Math.Path.{subst₃}
use Rattle.std.proofs.Math.Decide.{ℕ_discrete}
use Rattle.lists.specs.Choice.Laws.{choose_yes, choose_no}
use Rattle.frame.specs.Message.{Message, Valid}
use Rattle.protocol.specs.declared.Base.{Base}
use Rattle.protocol.proofs.Sound.Kept.{Kept, start_step_kept, arrival_step_kept}
use Rattle.protocol.specs.Steps.{Done, start_step, arrival_step}
use Rattle.protocol.proofs.Steps.Refusals.{Heard}
use Rattle.protocol.proofs.Steps.Broadcasts.{AllValid, Spoken, start_step_spoken, arrival_step_spoken}
use Rattle.protocol.specs.Net.{replaced}
use Rattle.protocol.specs.Agreement.Views.{Said}
use Rattle.protocol.specs.Agreement.Calls.{ViewInput, start_input, message_input, Quiescent, ViewCall}
use Rattle.protocol.specs.Agreement.Invariant.{broadcast_at}
use Rattle.protocol.proofs.Agreement.NetSteps.{NetStep}
use Rattle.protocol.proofs.Agreement.Observers.{place_of, view}
use Rattle.protocol.proofs.Agreement.Observers.Places.{place_inside}
use Rattle.protocol.proofs.Agreement.Observers.Steps.{start_seen, arrival_seen}
use Rattle.protocol.proofs.Agreement.Inner.{Member, Group, group_after}
use Rattle.protocol.proofs.Agreement.Inner.Begins.{seen, member_sound}

-- ---- a table with one entry replaced
pub replaced_here : {A : Type 0} (y : ℕ) (a : A) (f : ℕ → A) → replaced y a f y ≡ a
unfolding replaced
replaced_here y a f = choose_yes a (f y) (eq-eqb y y refl)

pub replaced_other : {A : Type 0} (y : ℕ) (a : A) (f : ℕ → A) (x : ℕ) → x ≢ y → replaced y a f x ≡ f x
unfolding replaced
replaced_other y a f x ne = choose_no a (f x) (ne_eqb x y ne)

-- what holds of the base that was called and of its log after the call, and of the others as they were, holds of each
pub called_each : (N : Group) (y : ℕ) (d : Done) (handed : ℕ → ℕ → ℕ → Bool) (Q : ℕ → Base → List Message → Type 0)
    → Q y d.base (N.log y ++ d.says)
    → ((x : ℕ) → x ≢ y → Q x (N.base x) (N.log x)) → (x : ℕ) → Q x ((group_after N y d handed).base x) ((group_after N y d handed).log x)
unfolding group_after
called_each N y d handed Q here other x = go (ℕ_discrete x y)
  where
    go : Dec (x ≡ y) → Q x (replaced y d.base N.base x) (replaced y (N.log y ++ d.says) N.log x)
    go (yes e) = rw e (subst₂ (Q y) (sym (replaced_here y d.base N.base)) (sym (replaced_here y (N.log y ++ d.says) N.log)) here)
    go (no e) = subst₂ (Q x) (sym (replaced_other y d.base N.base x e)) (sym (replaced_other y (N.log y ++ d.says) N.log x e))
        (other x e)

-- ---- what a call at a member needs to be a step
pub record Move (n t y : ℕ) (own : ℕ) (i : ViewInput) (b : Base) (d : Done) : Type 0 where
  pub call : ViewCall n t y own i (view y b) (view y d.base) d.says
  pub member : Member n t own d.base
  pub valid : AllValid n d.says

-- a message that arrives at a member is heard as the steps ask
pub member_heard : (n t y : ℕ) → y < n → (own : ℕ) (b : Base) → Member n t own b → (x : ℕ) → x < n → x ≢ y → (m : Message) → Valid n m
    → Heard b (place_of y x) m
member_heard n t y y_in own b M x x_in ne m w = record {
  refusal = M.refusal;
  place = subst (λ k. place_of y x < k - 1) (sym M.n_is) (place_inside y x n y_in x_in ne);
  valid = subst (λ k. Valid k m) (sym M.n_is) w;
}

module _ (n t : ℕ) (y : ℕ) (y_in : y < n) (own : ℕ) (b : Base) (M : Member n t own b) (quiescent : Quiescent n t y (view y b)) where
  inside : y < b.n
  inside = subst (λ k. y < k) (sym M.n_is) y_in

  quiescent_own : Quiescent b.n b.t y (view y b)
  quiescent_own = subst₂ (λ k s. Quiescent k s y (view y b)) (sym M.n_is) (sym M.t_is) quiescent

  move : (i : ViewInput) (d : Done) → ViewCall b.n b.t y b.own i (view y b) (view y d.base) d.says → Kept b d → Spoken b d
      → Move n t y own i b d
  move i d C K P = record {
    call = subst₃ (λ k s o. ViewCall k s y o i (view y b) (view y d.base) d.says) M.n_is M.t_is M.own_is C;
    member = record {
      n_is = K.setting.n ∙ M.n_is;
      t_is = K.setting.t ∙ M.t_is;
      own_is = K.setting.own ∙ M.own_is;
      refusal = K.refusal;
      sized = K.sized;
      words = P.words;
    };
    valid = subst (λ k. AllValid k d.says) M.n_is P.valid;
  }

  pub start_moves : Move n t y own start_input b (start_step b)
  start_moves = move start_input (start_step b) (start_seen y b inside M.refusal quiescent_own) (start_step_kept b M.sized M.refusal)
      (start_step_spoken b M.words M.refusal)

  module _ (x : ℕ) (x_in : x < n) (ne : x ≢ y) (m : Message) (w : Valid n m) where
    heard : Heard b (place_of y x) m
    heard = member_heard n t y y_in own b M x x_in ne m w

    pub arrival_moves : Move n t y own (message_input x m) b (arrival_step b (place_of y x) m)
    arrival_moves = move (message_input x m) (arrival_step b (place_of y x) m)
        (arrival_seen y b inside M.refusal M.sized quiescent_own x (subst (λ k. x < k) (sym M.n_is) x_in) ne m heard.valid)
        (arrival_step_kept b (place_of y x) m M.sized heard) (arrival_step_spoken b (place_of y x) m M.sized M.words heard)

-- ---- a step of the net
pub move_step : (n t : ℕ) (faulty : ℕ → ℕ → ℕ) (id : ℕ → ℕ) (N : Group) (y : ℕ) → y < n
    → (i : ViewInput) (d : Done) (handed : ℕ → ℕ → ℕ → Bool) → Move n t y (id y) i (N.base y) d
    → ((x : ℕ) (m : Message) → x < n → x ≢ y → faulty x y ≡ 0 → i ≡ message_input x m → Said m (N.log x))
    → ((a c k : ℕ) → handed a c k ≡ true
    → (N.handed a c k ≡ true) ⊎ ((c ≡ y) × (k < length (N.log a)) × (i ≡ message_input a (broadcast_at (N.log a) k))))
    → NetStep n t faulty id (seen N) (seen (group_after N y d handed))
unfolding seen group_after
move_step n t faulty id N y y_in i d handed does source newly = record {
  me = y;
  inside = y_in;
  input = i;
  left = view y d.base;
  says = d.says;
  call = does.call;
  sound = member_sound n t (id y) y d.base y_in does.member;
  base_here = ap (view y) (replaced_here y d.base N.base);
  log_here = replaced_here y (N.log y ++ d.says) N.log;
  base_other = λ x ne. ap (view x) (replaced_other y d.base N.base x ne);
  log_other = λ x ne. replaced_other y (N.log y ++ d.says) N.log x ne;
  source = source;
  newly = newly;
}
