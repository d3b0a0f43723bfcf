-- A field is a word that the columns accept one after the other.
use Rattle.std.proofs.Common.{◌≡◌, ℕ, zero, suc, ◌+◌, ◌-◌, ◌/◌, ◌%◌, ◌^◌, ◌<◌, ◌≤◌, Bool, true, false, cond, eqb, List, [], ◌∷◌, ◌++◌, length, replicate, Some, None, decimal, Option, sym, refl, ap, ◌∙◌, subst, append_assoc, append-nil, add-zero, pow-suc, arith, lit<, length-append}
use Rattle.std.proofs.Math.Nat.{pow-le-pow_right}
use Rattle.std.proofs.lemmas.Bool.Decides.{nat_tests}
use Rattle.std.proofs.lemmas.Fmt.{decimal_by_steps, decimal_nonempty, decimal_digit}
use Rattle.columns.specs.declared.field.Form.{Form}
use Rattle.columns.specs.declared.field.Form.TheVariants.{Signed, Zero}
use Rattle.columns.specs.declared.field.Content.{Content}
use Rattle.columns.specs.declared.field.Content.TheVariants.{Blank, Minus, Number, Negative}
use Rattle.columns.specs.Field.{justified, shown, content_after, Fits}
use Rattle.columns.proofs.Justified.{justified-whole, shown-length}
use Rattle.columns.proofs.Scans.{followed}
use Rattle.columns.proofs.Steps.{Valid, valid_more, valid_end, grown}

-- the content after all these columns; `whole`: they go to the end of the field
abbrev pub content_at_end : Form → Bool → Content → List ℕ → Option Content
content_at_end f whole s [] = Some s
content_at_end f whole s (b ∷ bs) = followed (content_after f (cond whole (eqb (length bs) 0) false) s b) (λ t. content_at_end f whole t bs) None

followed_some : (o : Option Content) → followed o (λ t. Some t) None ≡ o
followed_some (Some t) = refl
followed_some None = refl

followed_twice : (o : Option Content) (F G H : Content → Option Content) → ((t : Content) → F t ≡ followed (G t) H None) → followed o F None ≡ followed (followed o G None) H None
followed_twice (Some t) F G H e = e t
followed_twice None F G H e = refl

only : (whole : Bool) → cond whole true false ≡ whole
only true = refl
only false = refl

not_last : (whole : Bool) (ds : List ℕ) → 1 ≤ length ds → cond whole (eqb (length ds) 0) false ≡ false
not_last whole ds h = grind (arith, nat_tests)

push_column : (f : Form) (whole : Bool) (s : Content) (ds : List ℕ) (d : ℕ) → content_at_end f whole s (ds ++ (d ∷ [])) ≡ followed (content_at_end f false s ds) (λ t. content_after f whole t d) None
push_column f whole s [] d = followed_some (content_after f (cond whole true false) s d) ∙ ap (λ b. content_after f b s d) (only whole)
push_column f whole s (x ∷ ds) d =
    rw (not_last whole (ds ++ (d ∷ [])) (simp length-append (omega arith)))
    (followed_twice (content_after f false s x) (λ t. content_at_end f whole t (ds ++ (d ∷ []))) (λ t. content_at_end f false t ds) (λ t. content_after f whole t d) (λ t. push_column f whole t ds d))

-- the digits of a number are accepted where the field is blank and after a minus sign
abbrev Counts : ℕ → List ℕ → Type 0
Counts n ds = 1 ≤ n → (f : Form) → (f ≡ Zero → ⊥) → (whole : Bool) → (content_at_end f whole Blank ds ≡ Some (Number n)) × (content_at_end f whole Minus ds ≡ Some (Negative n))

counts_one : (n : ℕ) → n < 10 → Counts n ((48 + n) ∷ [])
counts_one n h o f z whole = (grind (arith, nat_tests), grind (arith, nat_tests))

digit_more : (f : Form) (whole : Bool) (n : ℕ) → (content_after f whole (Number (n / 10)) (48 + n % 10) ≡ Some (Number n)) × (content_after f whole (Negative (n / 10)) (48 + n % 10) ≡ Some (Negative n))
digit_more f whole n = (grind (arith, nat_tests), grind (arith, nat_tests))

counts_more : (n : ℕ) (ds : List ℕ) → 10 ≤ n → Counts (n / 10) ds → Counts n (ds ++ ((48 + n % 10) ∷ []))
counts_more n ds h p o f z whole =
    let q = p (omega arith) f z false in
    (rw (push_column, q.0) (digit_more f whole n).0, rw (push_column, q.1) (digit_more f whole n).1)

counts : (n : ℕ) → n < 2 ^ 64 → Counts n (decimal n)
counts = decimal_by_steps Counts counts_one counts_more

after_spaces : (f : Form) (i : ℕ) (ds : List ℕ) → 1 ≤ length ds → content_at_end f true Blank (replicate i 32 ++ ds) ≡ content_at_end f true Blank ds
after_spaces f zero ds h = refl
after_spaces f (suc i) ds h = rw (not_last true (replicate i 32 ++ ds) (simp length-append (omega arith))) (after_spaces f i ds h)

spaced : (f : Form) (w : ℕ) (ds : List ℕ) (v : Content) → 1 ≤ length ds → length ds ≤ w → content_at_end f true Blank ds ≡ Some v → content_at_end f true Blank (justified w ds) ≡ Some v
spaced f w ds v h n e = rw (justified-whole w ds n) (after_spaces f (w - length ds) ds h ∙ e)

number_accepted : (f : Form) (n : ℕ) → n < 10 ^ 8 → (f ≡ Zero → n ≡ 0) → content_at_end f true Blank (decimal n) ≡ Some (Number n)
number_accepted f zero h z = rw (decimal_digit 0 (lit< tt))
number_accepted f (suc n) h z = (counts (suc n) (omega arith) (omega arith) f (λ e. let u : suc n ≡ 0 = z e in omega arith) true).0

negative_accepted : (n : ℕ) → 1 ≤ n → n < 10 ^ 8 → content_at_end Signed true Blank (45 ∷ decimal n) ≡ Some (Negative n)
negative_accepted n o h =
    let some : 1 ≤ length (decimal n) = decimal_nonempty n (omega arith) in
    rw (not_last true (decimal n) some) (counts n (omega arith) o Signed (λ e. let u : ◌≡◌ {A = ℕ} 0 1 = cc in omega arith) true).1

-- each number that fits is accepted
pub accepted : (f : Form) (w : ℕ) (v : Content) → 1 ≤ w → w ≤ 8 → Fits f w v → content_at_end f true Blank (justified w (shown v)) ≡ Some v
accepted f w Blank o h v = absurd v
accepted f w Minus o h v = absurd v
accepted f w (Number n) o h v =
    let p : 10 ^ w ≤ 10 ^ 8 = pow-le-pow_right (lit< tt) h in
    spaced f w (decimal n) (Number n) (decimal_nonempty n (omega arith)) (shown-length f w (Number n) o h v) (number_accepted f n (omega arith) v.1)
accepted f w (Negative n) o h v =
    let p : 10 ^ w ≤ 10 ^ 8 = pow-le-pow_right (lit< tt) h in
    spaced f w (45 ∷ decimal n) (Negative n) (omega arith) (shown-length f w (Negative n) o h v) (subst (λ g. content_at_end g true Blank (45 ∷ decimal n) ≡ Some (Negative n)) (sym v.0) (negative_accepted n v.1 (omega arith)))

followed_is : (o : Option Content) (F : Content → Option Content) (v : Content) → followed o F None ≡ Some v → (t : Content) × ((o ≡ Some t) × (F t ≡ Some v))
followed_is (Some t) F v e = (t, (refl, e))
followed_is None F v e = let z : ◌≡◌ {A = ℕ} 0 1 = cc in absurd (omega arith)

some_same : (s v : Content) → Some s ≡ Some v → s ≡ v
some_same s v e = cc

-- what is accepted is a number that fits
accepted_fits : (f : Form) (l : List ℕ) (k : ℕ) (s v : Content) → k + length l ≤ 8 → Valid f (10 ^ k) (length l) s → content_at_end f true s l ≡ Some v → (justified k (shown s) ++ l ≡ justified (k + length l) (shown v)) × Valid f (10 ^ (k + length l)) 0 v
accepted_fits f [] k s v h g e = rw (add-zero k, append-nil, ← some_same s v e) (refl, g)
accepted_fits f (b ∷ l) k s v h g e =
    let o = followed_is (content_after f (eqb (length l) 0) s b) (λ t. content_at_end f true t l) v e in
    let t = o.0 in
    let under : k ≤ 8 = omega arith in
    let small : 10 ^ k ≤ 10 ^ 8 = pow-le-pow_right (lit< tt) under in
    let some : 1 ≤ 10 ^ k = pow-le-pow_right {n = 10} (lit< tt) {i = 0} {j = k} (omega arith) in
    let more : Valid f (10 ^ suc k) (length l) t = rw (pow-suc 10 k) (valid_more f (10 ^ k) (length l) s b t some g o.1.0) in
    let rest = accepted_fits f l (suc k) t v (omega arith) more o.1.1 in
    let shift : k + suc (length l) ≡ suc k + length l = omega arith in
    let joined : justified k (shown s) ++ (b ∷ l) ≡ justified (suc k) (shown t) ++ l = sym (append_assoc (justified k (shown s)) (b ∷ []) l) ∙ ap (λ u. u ++ l) (grown f k (length l) s b t small g o.1.0) in
    rw shift (joined ∙ rest.0, rest.1)

pub sound : (f : Form) (w : ℕ) (l : List ℕ) (v : Content) → length l ≡ w → 1 ≤ w → w ≤ 8 → content_at_end f true Blank l ≡ Some v → Fits f w v × (l ≡ justified w (shown v))
sound f w l v n o h e =
    let r = accepted_fits f l 0 Blank v (omega arith) (omega arith) e in
    let z : 0 + length l ≡ w = omega arith in
    (valid_end f w v (rw z at r.1), rw z at r.0)
