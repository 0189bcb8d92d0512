-- Changes made one after another, as a call that makes them all.
use Rattle.std.proofs.Common.{◌≡◌, List, [], ◌∷◌, ◌++◌, Option, Some, None, Ok, Err, refl, sym, ap, subst, ◌∙◌, IfSome, IsSome, append_assoc, append-nil, inl}
use Rattle.hk_base.specs.Bytes.{Files}
use Rattle.hk_outside.specs.declared.tree.TreeFault.{TreeFault}
use Rattle.hk_outside.specs.declared.tree.TreeFault.TheVariants.{Failed, NoMemory}
use Rattle.hk_writer.specs.Writing.{Change, removal, writing, changed, after, IsTorn, IsMadeInPart, IsTornInPart, Makes}

pub after-append : (cs ds : List Change) (m : Files) → after (cs ++ ds) m ≡ after ds (after cs m)
after-append [] ds m = refl
after-append (c ∷ cs) ds m = after-append cs ds (changed c m)

torn-same : (left : List Change) (m : Files) → IsTorn left m m
torn-same [] m = refl
torn-same (removal path ∷ cs) m = (λ q other. refl, inl refl)
torn-same (writing path bytes ∷ cs) m = λ q other. refl

torn-more : (left more : List Change) (m n : Files) → IsTorn left m n → IsTorn (left ++ more) m n
torn-more [] more m n h = subst (λ (x : Files). IsTorn more m x) (sym h) (torn-same more m)
torn-more (removal path ∷ cs) more m n h = h
torn-more (writing path bytes ∷ cs) more m n h = h

-- some changes were made of a folder, and those that are left from there are the rest of all
pub record IsReached (left : Files → List Change) (all : List Change) (m : Files) (now : Option Files) : Type 0 where
  pub made : List Change
  pub told : now ≡ Some (after made m)
  pub split : made ++ left (after made m) ≡ all

-- of the changes that `plan` gives for the folder at first, those that `left` gives for it now are still to make
pub record IsMaking (left plan : Files → List Change) (old now : Option Files) : Type 0 where
  pub at : IfSome old (λ m. IsReached left (plan m) m now)

pub making-init : (plan : Files → List Change) (old : Option Files) → IsMaking plan plan old old
making-init plan None = record { at = tt }
making-init plan (Some m) = record { at = record { made = []; told = refl; split = refl } }

-- one more call made its changes
pub making-turn : (left here left' plan : Files → List Change) (old now new : Option Files)
    → ((n : Files) → now ≡ Some n → left n ≡ here n ++ left' (after (here n) n))
    → IfSome now (λ n. new ≡ Some (after (here n) n)) → IsMaking left plan old now → IsMaking left' plan old new
making-turn left here left' plan None now new step done h = record { at = tt }
making-turn left here left' plan (Some m) now new step done h =
    let n : Files = after h.at.made m in
    let here-done : new ≡ Some (after (here n) n) = subst (λ o. IfSome o (λ n. new ≡ Some (after (here n) n))) h.at.told done in
    let all : after (h.at.made ++ here n) m ≡ after (here n) n = after-append h.at.made (here n) m in
    record {
      at = record {
        made = h.at.made ++ here n;
        told = here-done ∙ ap Some (sym all);
        split = ap (λ x. (h.at.made ++ here n) ++ left' x) all ∙ append_assoc h.at.made (here n) (left' (after (here n) n)) ∙ ap (λ l. h.at.made ++ l) (sym (step n h.at.told)) ∙ h.at.split;
      };
    }

torn-part : (made made' left' more left all : List Change) (m n : Files) → made ++ left ≡ all → left ≡ (made' ++ left') ++ more → IsTorn left' (after made' (after made m)) n → IsTornInPart all m n
torn-part made made' left' more left all m n split is torn = record {
  made = made ++ made';
  left = left' ++ more;
  split = append_assoc made made' (left' ++ more) ∙ ap (λ l. made ++ l) (sym (append_assoc made' left' more)) ∙ ap (λ l. made ++ l) (sym is) ∙ split;
  now = subst (λ x. IsTorn (left' ++ more) x n) (sym (after-append made made' m)) (torn-more left' more (after made' (after made m)) n torn);
}

made-part : (made made' left' more left all : List Change) (m n : Files) → made ++ left ≡ all → left ≡ (made' ++ left') ++ more → n ≡ after made' (after made m) → IsMadeInPart all m n
made-part made made' left' more left all m n split is now = record {
  made = made ++ made';
  left = left' ++ more;
  split = append_assoc made made' (left' ++ more) ∙ ap (λ l. made ++ l) (sym (append_assoc made' left' more)) ∙ ap (λ l. made ++ l) (sym is) ∙ split;
  now = now ∙ sym (after-append made made' m);
}

some-there : (new : Option Files) → IsSome new → (n : Files) × (new ≡ Some n)
some-there None e = absurd (cc)
some-there (Some n) e = (n, refl)

-- a call that was to make some first of the changes that are left was refused
pub making-stop : {T U : Type 0} (left here more plan : Files → List Change) (old now new : Option Files) (e : TreeFault)
    → ((n : Files) → now ≡ Some n → left n ≡ here n ++ more n) → Makes {T = T} here now new (Err e) → IsMaking left plan old now → Makes {T = U} plan old new (Err e)
making-stop {T} {U} left here more plan None now new e step stop h = record { done = tt; torn = tt; kept = tt; told = tt }
making-stop {T} {U} left here more plan (Some m) None new e step stop h = absurd (cc (h.at.told))
making-stop {T} {U} left here more plan (Some m) (Some n) new e step stop h =
    let is : n ≡ after h.at.made m = (cc (h.at.told)) in
    let split : h.at.made ++ left n ≡ plan m = ap (λ x. h.at.made ++ left x) is ∙ h.at.split in
    record {
      done = tt;
      torn = λ failed. let f : e ≡ Failed = (cc) in torn-at new is split (stop.torn (ap Err f));
      kept = λ wanting. let f : e ≡ NoMemory = (cc) in kept-at new is split (stop.kept (ap Err f));
      told = stop.told;
    }
  where
    torn-at : (new : Option Files) → n ≡ after h.at.made m → h.at.made ++ left n ≡ plan m → IfSome new (IsTornInPart (here n) n) → IfSome new (IsTornInPart (plan m) m)
    torn-at None is split t = tt
    torn-at (Some x) is split t = torn-part h.at.made t.made t.left (more n) (left n) (plan m) m x split (step n refl ∙ ap (λ l. l ++ more n) (sym t.split)) (subst (λ y. IsTorn t.left (after t.made y) x) is t.now)

    kept-at : (new : Option Files) → n ≡ after h.at.made m → h.at.made ++ left n ≡ plan m → IfSome new (IsMadeInPart (here n) n) → IfSome new (IsMadeInPart (plan m) m)
    kept-at None is split t = tt
    kept-at (Some x) is split t = made-part h.at.made t.made t.left (more n) (left n) (plan m) m x split (step n refl ∙ ap (λ l. l ++ more n) (sym t.split)) (t.now ∙ ap (λ y. after t.made y) is)

-- nothing is left
pub making-end : {T : Type 0} (left plan : Files → List Change) (old now : Option Files) (x : T) → ((n : Files) → left n ≡ []) → IsMaking left plan old now → Makes {T = T} plan old now (Ok x)
making-end {T} left plan None now x none h = record { done = tt; torn = tt; kept = tt; told = tt }
making-end {T} left plan (Some m) now x none h =
    let all : h.at.made ≡ plan m = sym (append-nil h.at.made) ∙ ap (λ l. h.at.made ++ l) (sym (none (after h.at.made m))) ∙ h.at.split in
    record {
      done = h.at.told ∙ ap (λ l. Some (after l m)) all;
      torn = λ f. absurd (cc);
      kept = λ f. absurd (cc);
      told = subst (λ o. IsSome o) (sym h.at.told) refl;
    }
