-- Steps of a walk, for proofs that go through code operation by operation: a call whose contract names the struct that it gives back, and
-- what a local holds, lent and back. They are of any struct; those who walk say which.
use mathlib.Core.Path.{◌≡◌, refl, sym, ap, subst}
use mathlib.Core.List.{[], ◌∷◌, List}
use Prim.Native.Nat.{ℕ}
use seplogic.Ra.Ura.{Ura}
use base.Fraction.{full_share}
use mir.Syntax.{named, Callee, Place, Opd as Operand, Body as Code, seq, call}
use mir.Val.{Val, vptr}
use base.Logic.{ent, sep}
use base.Fml.{Lft, GName, Fml, ftrue, fsep, fdead, flft, flent, fres}
use prog.Wp.{Env, Calls, Loops}
use types.Logic.{Logic, sem}
use contract.Monad.{fact}
use types.Kit.{Goal, Soaks, Step, step, Item, Post, Seq, runs, lands, mean, ‵, raw, ◌⊛◌, some, later, ◌$◌, move, drop, use1, use2, use3, split, pick, rewrite, fsplit, fjoin, fpick, fpack, await}
use types.Run.{Opds}
use types.SemTy.{Body}
use types.Tokens.{lft_new, lft_end}
use sound.WpLaws.{FmC}
use denote.RattleType.{RattleType}
use denote.Laws.{Rel, Tells, Shows, Makes, Is, shows}
use denote.Memory.{mem, cell_at, part_of}
use denote.Ref.{MutBor, MutRef}
use denote.Lend.{lends_ref, ref_back}
use denote.Struct.Declared.{Declared, row}
use denote.Struct.Steps.{spelt}
use denote.Struct.Laws as LL
use denote.Steps.{only, owned, peeks, heard, nothing}
use denote.Triple.Statement.{Contract, Triple}
use denote.Triple.Call.{calls_at}

-- a reference to what stands at a place, by the place and the name of its loan, and what the lender keeps
abbrev pub lent_at : {X : Type 0} → ℕ → GName → X → MutBor X
lent_at l δ x = record { ref_ptr = (l, 0); ghost_name = δ; now = x }

abbrev pub Lender : RattleType → Lft → GName → ℕ → Fml
Lender R β δ l = flent β (Body (mem R) l 0 δ)

module _ {M : Type 1} {𝓤 : Ura M} {𝓛 : Logic 𝓤} {K : Type 0} {Γ : List (Item 𝓤)} {G : Goal 𝓤 𝓛.H} where
  -- what a local holds is lent for a lifetime
  pub lends_local : K → Soaks G → (R : RattleType) (β : Lft) (x : R.Denot) (vs : List Val) (l : ℕ)
      → ((δ : GName) → Seq K 𝓛 (‵ ((MutRef (named 0) β R).own_val (lent_at l δ x) (vptr l 0 ∷ [])) ∷ ‵ (Lender R β δ l) ∷ Γ) G)
      → Seq K 𝓛 (‵ (cell_at full_share R.mir vs l 0) ∷ ‵ (R.own_val x vs) ∷ Γ) G
  unfolding part_of
  lends_local t z R β x vs l k =
      fjoin t $ fpack t (List Val) (λ us. fsep (cell_at full_share R.mir us l 0) (R.own_val x us)) vs $
      use1 𝓛 (later (some (λ (δ : GName). ‵ ((MutRef (named 0) β R).own_val (lent_at l δ x) (vptr l 0 ∷ [])) ⊛ ‵ (Lender R β δ l)))) (lends_ref 𝓛 R (named 0) β x l 0) $ await t z $ pick t (λ δ. split t $ k δ)

  -- and is back once that is over, at the last value of the reference, spelt as its relation tells
  pub local_back : K → Soaks G → (R : RattleType) (P : Rel R) → Shows 𝓛 R P → (vals : R.Denot → List Val) → Tells R P vals → (β : Lft) (δ : GName) (x : R.Denot) (l : ℕ)
      → Step K 𝓛 (‵ (cell_at full_share R.mir (vals x) l 0) ∷ ‵ (R.own_val x (vals x)) ∷ Γ) G (‵ (fdead β) ∷ ‵ (Lender R β δ l) ∷ ‵ (fres δ (R.coded.code x)) ∷ Γ) G
  unfolding part_of
  local_back t z R P sh vals tl β δ x l =
      step (λ k. use3 𝓛 (later (‵ ((mem R).own_at x l 0))) (ref_back 𝓛 R β δ x l 0) $ await t z $ fpick t (λ vs. fsplit t $ spelt t R P sh vals tl full_share x vs l 0 $ k))

module _ {M : Type 1} {𝓤 : Ura M} {𝓛 : Logic 𝓤} {K : Type 0} {Γ : List (Item 𝓤)} {E : Env 𝓤 𝓛.H} {C : Calls 𝓤 𝓛.H} {Λ : Loops 𝓤 𝓛.H} {q : Post 𝓤 𝓛.H} {dst : Place} {rest : Code} where
  -- A struct is owned that is the one named: its machine value is about to land, and is known to be that of the struct named.
  lands_as : K → (T : Declared) (L : LL.Laws T) (d r : T.D) (w : Val) → r ≡ d → (Is (row T) d (LL.vals T L d) → Seq K 𝓛 Γ (lands C Λ E dst (LL.val T L d) rest q)) → Seq K 𝓛 (‵ ((row T).own_val r (w ∷ [])) ∷ Γ) (lands C Λ E dst w rest q)
  lands_as t T L d r w e k =
      rewrite t 0 (λ (z : T.D). ‵ ((row T).own_val z (w ∷ []))) e refl $
      peeks t (row T) (Is (row T)) (shows 𝓛 (row T)) d (w ∷ []) (λ is. drop t $
      subst (λ (v : Val). Seq K 𝓛 Γ (lands C Λ E dst v rest q)) (sym (ap only (LL.tells T L d (w ∷ []) is))) (k (subst (Is (row T) d) (LL.tells T L d (w ∷ []) is) is)))

module _ {M : Type 1} {𝓤 : Ura M} {𝓛 : Logic 𝓤} {K : Type 0} {Γ : List (Item 𝓤)} {E : Env 𝓤 𝓛.H} {C : Calls 𝓤 𝓛.H} {Λ : Loops 𝓤 𝓛.H} {q : Post 𝓤 𝓛.H} {f : Callee} {dst : Place} {xs : List Operand} {rest : Code} where
  -- a call of a function whose contract names the struct that it gives back; `Last` is what the contract has of last values
  open 𝓛 use {H, A}

  pub answers : K → FmC 𝓤 H 𝓛.laws C → (c : Contract 𝓤) → Triple 𝓤 (C f) c → (x : c.Ghost) → (T : Declared) (L : LL.Laws T) (d : T.D)
      → ent 𝓤 (sem 𝓛 ftrue) (c.pre x)
      → {Z : Type 0} (Last : Z → Fml) → ((w : Val) → ent 𝓤 (c.post x w) (mean 𝓛 (later (some (λ (r : T.D). (‵ ftrue ⊛ ‵ ((row T).own_val r (w ∷ []))) ⊛ some (λ (z : Z). ‵ (Last z) ⊛ raw (fact 𝓤 (r ≡ d))))))))
      → Opds K 𝓛 (raw (c.pre x) ∷ Γ) E xs (c.args x)
      → (Is (row T) d (LL.vals T L d) → Seq K 𝓛 Γ (lands C Λ E dst (LL.val T L d) rest q))
      → Seq K 𝓛 Γ (runs C Λ E (seq (call f xs dst) rest) q)
  answers t fm c known x T L d asked {Z} Last post os k =
      nothing t $ use1 𝓛 (raw (c.pre x)) asked $ calls_at t fm c known x os (λ w.
      use1 𝓛 (later (some (λ (r : T.D). (‵ ftrue ⊛ ‵ ((row T).own_val r (w ∷ []))) ⊛ some (λ (z : Z). ‵ (Last z) ⊛ raw (fact 𝓤 (r ≡ d)))))) (post w) $ await t tt $ pick t (λ r.
      split t $ move t (1 ∷ []) $ pick t (λ z. split t $ drop t $ heard t (r ≡ d) (λ e. split t $ drop t $ lands_as t T L d r w e k))))

  -- The same of a function that is lent a struct of plain fields, which a local holds, for a lifetime that lasts as long as the call: the
  -- local is back with the struct that the contract names in it.
  pub answers_lent : K → FmC 𝓤 H 𝓛.laws C → (c : Contract 𝓤) → Triple 𝓤 (C f) c → (x : ℕ → GName → c.Ghost) → (T : Declared) (L : LL.Laws T) → Makes 𝓛 (row T) (Is (row T)) → (d e : T.D) (l : ℕ) → (S : Declared) (N : LL.Laws S) (s : S.D)
      → ((α : ℕ) (δ : GName) → ent 𝓤 (sep 𝓤 (A.lft (α ∷ []) full_share) (sem 𝓛 ((MutRef (named 0) (α ∷ []) (row T)).own_val (lent_at l δ d) (vptr l 0 ∷ [])))) (c.pre (x α δ)))
      → {Z : Type 0} (Last : Z → Fml) → ((α : ℕ) (δ : GName) (w : Val) → ent 𝓤 (c.post (x α δ) w) (mean 𝓛 (later (some (λ (r : S.D). ((‵ (flft (α ∷ []) full_share) ⊛ ‵ ftrue) ⊛ ‵ ((row S).own_val r (w ∷ []))) ⊛ some (λ (zs : T.D × Z). ‵ (fsep (fres δ ((row T).coded.code zs.0)) (Last zs.1)) ⊛ raw (fact 𝓤 ((r ≡ s) × (zs.0 ≡ e)))))))))
      → ((α : ℕ) (δ : GName) → Opds K 𝓛 (raw (c.pre (x α δ)) ∷ ‵ (Lender (row T) (α ∷ []) δ l) ∷ Γ) E xs (c.args (x α δ)))
      → Is (row T) d (LL.vals T L d)
      → (Is (row S) s (LL.vals S N s) → Is (row T) e (LL.vals T L e) → Seq K 𝓛 (‵ (cell_at full_share (row T).mir (LL.vals T L e) l 0) ∷ Γ) (lands C Λ E dst (LL.val S N s) rest q))
      → Seq K 𝓛 (‵ (cell_at full_share (row T).mir (LL.vals T L d) l 0) ∷ Γ) (runs C Λ E (seq (call f xs dst) rest) q)
  answers_lent t fm c known x T L makes d e l S N s asked {Z} Last post os was k =
      owned t (row T) (Is (row T)) makes d (LL.vals T L d) was $ move t (1 ∷ 0 ∷ []) $
      lft_new t tt (λ α. move t (1 ∷ 2 ∷ []) $ lends_local t tt (row T) (α ∷ []) d (LL.vals T L d) l (λ δ.
      -- the call, for a token of the new lifetime and the reference
      move t (2 ∷ 0 ∷ []) $ use2 𝓛 (raw (c.pre (x α δ))) (asked α δ) $ calls_at t fm c known (x α δ) (os α δ) (λ w.
      use1 𝓛 (later (some (λ (r : S.D). ((‵ (flft (α ∷ []) full_share) ⊛ ‵ ftrue) ⊛ ‵ ((row S).own_val r (w ∷ []))) ⊛ some (λ (zs : T.D × Z). ‵ (fsep (fres δ ((row T).coded.code zs.0)) (Last zs.1)) ⊛ raw (fact 𝓤 ((r ≡ s) × (zs.0 ≡ e))))))) (post α δ w) $ await t tt $ pick t (λ r.
      split t $ move t (1 ∷ []) $ pick t (λ zs. split t $ move t (1 ∷ []) $ heard t ((r ≡ s) × (zs.0 ≡ e)) (λ is.
      fsplit t $ rewrite t 0 (λ (z : T.D). ‵ (fres δ ((row T).coded.code z))) is.1 refl $
      -- the lifetime ends, and the local is back
      move t (2 ∷ []) $ split t $ split t $ lft_end t tt $ move t (0 ∷ 5 ∷ 3 ∷ []) $
      local_back t tt (row T) (Is (row T)) (shows 𝓛 (row T)) (LL.vals T L) (LL.tells T L) (α ∷ []) δ e l $
      move t (1 ∷ []) $ peeks t (row T) (Is (row T)) (shows 𝓛 (row T)) e (LL.vals T L e) (λ now. drop t $
      move t (1 ∷ 3 ∷ 2 ∷ []) $ drop t $ drop t $ lands_as t S N s r w is.0 (λ said. k said now))))))))
