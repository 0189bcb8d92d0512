-- Reading on.
use Rattle.std.proofs.Common.{◌≡◌, ℕ, ◌+◌, ◌≤◌, true, false, List, [], ◌∷◌, ◌++◌, length, drop, take, arith, refl, sym, ap, ◌∙◌, append_assoc}
use Rattle.std.proofs.lemmas.List.{drop-drop, take-take, length-take, length-append, take_at, drop_at}
use Rattle.std.proofs.Math.Seq.{take-append_seam, drop-append_seam}
use Rattle.hk_base.specs.Bytes.{Bytes}
use Rattle.hk_html.specs.declared.scan.Scan.{Scan}
use Rattle.hk_html.specs.declared.attribute.Sizes.{Sizes}
use Rattle.hk_html.specs.declared.attribute.Attribute.TheVariants.{Bare, Valued}
use Rattle.hk_html.specs.Read.{sizes_of}
use Rattle.hk_html.specs.Part.{Part, mark, bare, valued, part_text, with_root, is_link}
use Rattle.hk_html.specs.Scan.{Reads, ReadsPart, ahead, written, link_values}

pub Reads-ahead : (old new : Scan) (count : ℕ) (texts : Bytes → Bytes) (values : List Bytes) → Reads old new count texts values → ahead new ≡ drop count (ahead old)
Reads-ahead old new count texts values reads = rw (reads.at, reads.body) (sym (drop-drop count old.at old.body.now))

pub Reads-same : {old new : Scan} {count : ℕ} {texts : Bytes → Bytes} {values : List Bytes} (other : ℕ) (others : Bytes → Bytes) (found : List Bytes)
    → Reads old new count texts values → count ≡ other → ((root : Bytes) → texts root ≡ others root) → values ≡ found → Reads old new other others found
Reads-same other others found reads counts texts values = record {
  body = reads.body;
  at = rw (← counts) reads.at;
  text = λ root. rw (← texts root) (reads.text root);
  found = rw (← values) reads.found;
  kept = reads.kept;
}

pub kept_more : {A : Type 0} (a b c : List A) → take (length a) b ≡ a → take (length b) c ≡ b → take (length a) c ≡ a
kept_more a b c one two =
    let short : length a ≤ length b = omega (arith, ap length one, length-take (length a) b) in
    sym (take-take (length a) (length b) c short) ∙ rw two one

pub Reads-trans : {old mid new : Scan} {n m : ℕ} {t u : Bytes → Bytes} {v w : List Bytes} → Reads old mid n t v → Reads mid new m u w → Reads old new (n + m) (λ root. t root ++ u root) (v ++ w)
Reads-trans {old} {mid} {new} {n} {m} {t} {u} {v} {w} one two = record {
  body = two.body ∙ one.body;
  at = omega (arith, one.at, two.at);
  text = λ root. rw (two.text root, one.text root) (append_assoc (written root old) (t root) (u root));
  found = rw (two.found, one.found) (append_assoc (link_values old.links.items) v w);
  kept = kept_more old.links.items mid.links.items new.links.items one.kept two.kept;
}

length_valued : (name between value close : Bytes) → length (name ++ (between ++ (value ++ close))) ≡ (length name + length between) + length value + length close
length_valued name between value close = simp length-append (omega arith)

cut_before : (name between value close rest text : Bytes) → text ≡ (name ++ (between ++ (value ++ close))) ++ rest → take (length name + length between) text ≡ name ++ between
cut_before name between value close rest text e =
    let joined : text ≡ (name ++ between) ++ ((value ++ close) ++ rest) = e ∙ simp append_assoc in
    rw joined (take_at (name ++ between) _ _ (length-append name between))

after_before : (name between value close rest text : Bytes) → text ≡ (name ++ (between ++ (value ++ close))) ++ rest → drop (length name + length between) text ≡ value ++ (close ++ rest)
after_before name between value close rest text e =
    let joined : text ≡ (name ++ between) ++ (value ++ (close ++ rest)) = e ∙ simp append_assoc in
    rw joined (drop_at (name ++ between) _ _ (length-append name between))

-- an attribute that holds a URL: up to the end of its value, and then what closes it
pub ReadsPart-link : (old mid new : Scan) (name between value close rest : Bytes) → ahead old ≡ (name ++ (between ++ (value ++ close))) ++ rest
    → is_link name ≡ true
    → Reads old mid (length name + length between + length value)
    (λ root. take (length name + length between) (ahead old) ++ with_root root (take (length value) (drop (length name + length between) (ahead old))))
    (take (length value) (drop (length name + length between) (ahead old)) ∷ [])
    → Reads mid new (length close) (λ root. take (length close) (ahead mid)) []
    → ReadsPart old new (valued name between value close)
ReadsPart-link old mid new name between value close rest text link one two =
    let before = cut_before name between value close rest (ahead old) text in
    let after = after_before name between value close rest (ahead old) text in
    let value_is : take (length value) (drop (length name + length between) (ahead old)) ≡ value = rw after (take-append_seam value _) in
    let end : drop (length value) (drop (length name + length between) (ahead old)) ≡ close ++ rest = rw after (drop-append_seam value _) in
    let mid_is : ahead mid ≡ close ++ rest = Reads-ahead old mid _ _ _ one ∙ sym (drop-drop (length value) (length name + length between) (ahead old)) ∙ end in
    let close_is : take (length close) (ahead mid) ≡ close = rw mid_is (take-append_seam close rest) in
    Reads-same _ _ _ (Reads-trans one two)
    (sym (length_valued name between value close))
    (λ root. rw (before, value_is, close_is, link) (simp append_assoc))
    (rw (value_is, link))

-- any other attribute
pub ReadsPart-plain : (old new : Scan) (name between value close rest : Bytes) → ahead old ≡ (name ++ (between ++ (value ++ close))) ++ rest
    → is_link name ≡ false
    → Reads old new (length name + length between + length value + length close) (λ root. take (length name + length between + length value + length close) (ahead old)) []
    → ReadsPart old new (valued name between value close)
ReadsPart-plain old new name between value close rest text link one =
    let sum = length_valued name between value close in
    Reads-same _ _ _ one (sym sum)
    (λ root. rw (← sum, text, link) (take-append_seam (name ++ (between ++ (value ++ close))) rest))
    (rw link)

-- a part that holds no URL
pub ReadsPart-bare : (old new : Scan) (text rest : Bytes) → ahead old ≡ text ++ rest
    → Reads old new (length text) (λ root. take (length text) (ahead old)) []
    → Reads old new (length text) (λ root. text) []
ReadsPart-bare old new text rest e one = Reads-same _ _ _ one refl (λ root. rw e (take-append_seam text rest)) refl

-- the same of an attribute of these sizes
pub ReadsPart-link_of : (old mid new : Scan) (sizes : Sizes) (part : Part) (rest : Bytes) → ahead old ≡ part_text part ++ rest → Valued sizes ≡ sizes_of part
    → is_link (take sizes.name (ahead old)) ≡ true
    → Reads old mid (sizes.name + sizes.between + sizes.value)
    (λ root. take (sizes.name + sizes.between) (ahead old) ++ with_root root (take sizes.value (drop (sizes.name + sizes.between) (ahead old))))
    (take sizes.value (drop (sizes.name + sizes.between) (ahead old)) ∷ [])
    → Reads mid new sizes.close (λ root. take sizes.close (ahead mid)) []
    → ReadsPart old new part
ReadsPart-link_of old mid new sizes (mark b) rest text is link one two = cc
ReadsPart-link_of old mid new sizes (bare bytes) rest text is link one two = cc
ReadsPart-link_of old mid new sizes (valued name between value close) rest text is link one two =
    let same : sizes ≡ record { name = length name; between = length between; value = length value; close = length close } = cc in
    let names : take sizes.name (ahead old) ≡ name = rw (same, text) (simp append_assoc (take-append_seam name _)) in
    ReadsPart-link old mid new name between value close rest text (rw (← names) link) (rw same at one) (rw same at two)

pub ReadsPart-plain_of : (old new : Scan) (sizes : Sizes) (part : Part) (rest : Bytes) → ahead old ≡ part_text part ++ rest → Valued sizes ≡ sizes_of part
    → is_link (take sizes.name (ahead old)) ≡ false
    → Reads old new (sizes.name + sizes.between + sizes.value + sizes.close) (λ root. take (sizes.name + sizes.between + sizes.value + sizes.close) (ahead old)) []
    → ReadsPart old new part
ReadsPart-plain_of old new sizes (mark b) rest text is link one = cc
ReadsPart-plain_of old new sizes (bare bytes) rest text is link one = cc
ReadsPart-plain_of old new sizes (valued name between value close) rest text is link one =
    let same : sizes ≡ record { name = length name; between = length between; value = length value; close = length close } = cc in
    let names : take sizes.name (ahead old) ≡ name = rw (same, text) (simp append_assoc (take-append_seam name _)) in
    ReadsPart-plain old new name between value close rest text (rw (← names) link) (rw same at one)

pub ReadsPart-bare_of : (old new : Scan) (count : ℕ) (part : Part) (rest : Bytes) → ahead old ≡ part_text part ++ rest → Bare count ≡ sizes_of part
    → Reads old new count (λ root. take count (ahead old)) [] → ReadsPart old new part
ReadsPart-bare_of old new count (mark b) rest text is one =
    let same : count ≡ 1 = cc in
    ReadsPart-bare old new (b ∷ []) rest text (rw same at one)
ReadsPart-bare_of old new count (bare bytes) rest text is one =
    let same : count ≡ length bytes = cc in
    ReadsPart-bare old new bytes rest text (rw same at one)
ReadsPart-bare_of old new count (valued name between value close) rest text is one = cc
