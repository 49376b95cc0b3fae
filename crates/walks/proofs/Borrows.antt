-- A value of a declared type behind a `&mut`, and in a local that is lent, over any such type.
--     opened, closed       the borrow is opened, which shows the value's cell and what relates the value to it, and closed at another value
--     lends, comes_back    the local is lent for a new lifetime; and once the call has said the last value, the lifetime is ended and the
--                          local holds that
-- Assumes `Logic`.
use Prim.Native.Nat.{ℕ}
use mathlib.Core.List.{[], ◌∷◌, List}
use seplogic.Ra.Ura.{Ura}
use base.Fraction.{full_share}
use mir.Syntax.{named}
use mir.Val.{Val, vptr}
use base.Stored.{Gv}
use base.Fml.{Lft, GName, Share, flft, fobs, fauth, fbor, fobor, fsep, fat, flent, fres}
use types.Logic.{Logic}
use types.Kit.{Item, Goal, Soaks, ‵, Seq, Step, step, ◌$◌, move, drop, some, later, ◌⊛◌, use1, use3, split, pick, fsplit, fjoin, fpick, fpack, await}
use types.SemTy.{Body}
use types.Tokens.{lft_new, lft_end}
use denote.Laws.{Is, shows}
use denote.Lend.{lends_ref, ref_back}
use denote.Memory.{mem, cell_at, part_of, part_at}
use denote.Ref.{MutRef}
use denote.Steps.{opens, closes, owned, peeks}
use denote.Struct.Struct.{Plains}
use denote.Struct.Declared.{Declared, fields, row}
use denote.Struct.Steps.{spelt}
use denote.Struct.Laws.{Laws, vals, tells, makes, val}
use Rattle.walks.proofs.Statements.{mir_of}

module _ {M : Type 1} {𝓤 : Ura M} {𝓛 : Logic 𝓤} {K : Type 0} {Γ : List (Item 𝓤)} {G : Goal 𝓤 𝓛.H} {κ : Lft} {q : Share} {γ : GName} where
  pub opened : K → Soaks G → (T : Declared) (L : Laws T) (h : T.D) (b o : ℕ)
      → (Is (row T) h (vals T L h) → Seq K 𝓛 (‵ (cell_at full_share (row T).mir (vals T L h) b o) ∷ ‵ (fobor κ q (Body (mem (row T)) b o γ)) ∷ ‵ (fobs γ ((row T).coded.code h)) ∷ ‵ (fauth γ ((row T).coded.code h)) ∷ Γ) G)
      → Seq K 𝓛 (‵ (fobs γ ((row T).coded.code h)) ∷ ‵ (fbor κ (Body (mem (row T)) b o γ)) ∷ ‵ (flft κ q) ∷ Γ) G
  opened t z T L h b o k = opens t z (row T) {h = h} b o (λ vs. spelt t (row T) (Is (row T)) (shows 𝓛 (row T)) (vals T L) (tells T L) full_share h vs b o $
      move t (1 ∷ []) $ peeks t (row T) (Is (row T)) (shows 𝓛 (row T)) h (vals T L h) (λ is. drop t $ k is))

  pub closed : K → Soaks G → (T : Declared) (L : Laws T) → Plains (fields T) → (h : T.D) (b o : ℕ) → Is (row T) h (vals T L h) → {u v : Gv}
      → Step K 𝓛 (‵ (fobs γ ((row T).coded.code h)) ∷ ‵ (fbor κ (Body (mem (row T)) b o γ)) ∷ ‵ (flft κ q) ∷ Γ) G
      (‵ (cell_at full_share (row T).mir (vals T L h) b o) ∷ ‵ (fobor κ q (Body (mem (row T)) b o γ)) ∷ ‵ (fobs γ u) ∷ ‵ (fauth γ v) ∷ Γ) G
  closed t z T L facts h b o is = step (λ s. owned t (row T) (Is (row T)) (makes T facts 𝓛) h (vals T L h) is $ move t (1 ∷ 0 ∷ []) $ closes t z (row T) h (vals T L h) b o $ s)

module _ {M : Type 1} {𝓤 : Ura M} {𝓛 : Logic 𝓤} {K : Type 0} {Γ : List (Item 𝓤)} {G : Goal 𝓤 𝓛.H} where
  pub lends : K → Soaks G → (T : Declared) (L : Laws T) → Plains (fields T) → (h : T.D) (l : ℕ) → Is (row T) h (vals T L h)
      → ((ν : ℕ) (δ : GName) → Seq K 𝓛 (‵ (flft (ν ∷ []) full_share) ∷ ‵ ((MutRef (named 0) (ν ∷ []) (row T)).own_val (record { ref_ptr = (l, 0); ghost_name = δ; now = h }) (vptr l 0 ∷ [])) ∷ ‵ (flent (ν ∷ []) (Body (mem (row T)) l 0 δ)) ∷ Γ) G)
      → Seq K 𝓛 (‵ (fat full_share (mir_of T) l 0 (val T L h)) ∷ Γ) G
  unfolding part_of
  lends t z T L facts h l is k =
      use1 𝓛 (‵ (cell_at full_share (row T).mir (vals T L h) l 0)) (𝓛.laws.at_raw full_share (mir_of T) l 0 (val T L h)) $ owned t (row T) (Is (row T)) (makes T facts 𝓛) h (vals T L h) is $ move t (1 ∷ 0 ∷ []) $ fjoin t $
      fpack t (List Val) (λ vs. fsep (cell_at full_share (row T).mir vs l 0) ((row T).own_val h vs)) (vals T L h) $ lft_new t z (λ ν. move t (1 ∷ []) $
      use1 𝓛 (later (some (λ (δ : GName). ‵ ((MutRef (named 0) (ν ∷ []) (row T)).own_val (record { ref_ptr = (l, 0); ghost_name = δ; now = h }) (vptr l 0 ∷ [])) ⊛ ‵ (flent (ν ∷ []) (Body (mem (row T)) l 0 δ))))) (lends_ref 𝓛 (row T) (named 0) (ν ∷ []) h l 0) $
      await t z $ pick t (λ δ. split t $ move t (2 ∷ 0 ∷ 1 ∷ []) $ k ν δ))

  pub comes_back : K → Soaks G → (T : Declared) (L : Laws T) {ν : ℕ} {δ : GName} (h : T.D) (l : ℕ) → (Is (row T) h (vals T L h) → Seq K 𝓛 (‵ (fat full_share (mir_of T) l 0 (val T L h)) ∷ Γ) G)
      → Seq K 𝓛 (‵ (flft (ν ∷ []) full_share) ∷ ‵ (flent (ν ∷ []) (Body (mem (row T)) l 0 δ)) ∷ ‵ (fres δ ((row T).coded.code h)) ∷ Γ) G
  unfolding part_of
  comes_back t z T L {ν} {δ} h l k =
      lft_end t z $ use3 𝓛 (later (‵ (part_at (row T) full_share h l 0))) (ref_back 𝓛 (row T) (ν ∷ []) δ h l 0) $ await t z $
      fpick t (λ vs. fsplit t $ spelt t (row T) (Is (row T)) (shows 𝓛 (row T)) (vals T L) (tells T L) full_share h vs l 0 $
      move t (1 ∷ []) $ peeks t (row T) (Is (row T)) (shows 𝓛 (row T)) h (vals T L h) (λ is. drop t $ use1 𝓛 (‵ (fat full_share (mir_of T) l 0 (val T L h))) (𝓛.laws.raw_at full_share (mir_of T) l 0 (val T L h)) $ k is))
