-- A replay by the test that the code makes on what is kept: on the bank that is said, or on any that is not well formed.
use Prim.Native.Nat.{ℕ}
use mathlib.Core.Path.{◌≡◌, refl, ap, sym, ◌∙◌}
use mathlib.Core.Bool.{Bool, true, false}
use mathlib.Core.List.{List, []}
use Rattle.bank.specs.declared.Bank.{Bank}
use Rattle.bank.specs.Formed.{well_formed}
use Rattle.answer.specs.Given.{controller}
use Rattle.playback_model.specs.Replay.{Replay, replay_of}
use Rattle.playback_model.specs.Done.{IllFormedReplay}
use Rattle.playback_model.proofs.IllFormed.{ill_formed_replay}
use Rattle.image_model.specs.Image.{Kept, kept_of, bank_in, encoded, sized, is_kept}
use Rattle.image_model.proofs.Laws.{words_back}
use Rattle.host_model.specs.Host.{Replayed, told_in, replay_in}
use Rattle.host_model.specs.Laws.{NotKeptIsRefused}
use Rattle.host_model.proofs.Hosting.{formed_kept}
use Rattle.host_model.proofs.Laws.{not_kept_is_refused}

-- what a replay gives with something kept after it
abbrev pub given : Replay → Kept → List ℕ → Replayed
given r k ts = record { number = r.told.number; kept = k; store = r.left.store; told = told_in r.told ts }

module _ (file : List ℕ) (i limit : ℕ) (k : Kept) (st ts : List ℕ) where
  on_kept : is_kept k ≡ true → (r : Replay) → r ≡ replay_of file i limit (controller (bank_in k) st []) → given r (kept_of r.left.bank) ts ≡ replay_in file i limit k st ts
  unfolding replay_in
  on_kept e r f = rw e (ap (λ (r : Replay). given r (kept_of r.left.bank) ts) f)

  -- any bank that is not well formed gives what is kept of none, and stays
  pub unformed : is_kept k ≡ false → (b : Bank) → well_formed b ≡ false → (r : Replay) → r ≡ replay_of file i limit (controller b st []) → (r.left.bank ≡ b) × (given r k ts ≡ replay_in file i limit k st ts)
  unfolding NotKeptIsRefused IllFormedReplay
  unformed e b w r f =
      let g = f ∙ ill_formed_replay file i limit (controller b st []) w in
      (ap (λ (r : Replay). r.left.bank) g, ap (λ (r : Replay). given r k ts) g ∙ sym ((not_kept_is_refused k e).1 file i limit st ts))

  -- words of a state are replayed on: where the bank is not well formed it stays, and so does what is kept
  pub said : sized k ≡ true → encoded k.image ≡ true → (r : Replay) → r ≡ replay_of file i limit (controller (bank_in k) st []) → given r (kept_of r.left.bank) ts ≡ replay_in file i limit k st ts
  said n e r f = go (well_formed (bank_in k)) refl
    where
      go : (b : Bool) → well_formed (bank_in k) ≡ b → given r (kept_of r.left.bank) ts ≡ replay_in file i limit k st ts
      go true w = on_kept (formed_kept k n e ∙ w) r f
      go false w =
          let u = unformed (formed_kept k n e ∙ w) (bank_in k) w r f in
          ap (λ (x : Kept). given r x ts) (ap kept_of u.0 ∙ words_back k.image e k refl) ∙ u.1
