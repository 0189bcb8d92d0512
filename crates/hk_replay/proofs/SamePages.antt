-- Pages of one kind and one body.
use Rattle.std.proofs.Common.{◌≡◌, Bool, true, false, sym}
use Rattle.std.specs.Bool.{OnTrue}
use Rattle.std.specs.Prelude.{bytes_eq}
use Rattle.hk_base.specs.Ties.{bytes-same}
use Rattle.hk_chain.specs.declared.page.Page.{Page}

pub page-same : (b : Bool) (x y : Page) → x.kind ≡ y.kind → b ≡ bytes_eq x.body y.body → OnTrue b (x ≡ y)
page-same true x y kind e = let body : x.body ≡ y.body = bytes-same x.body y.body (sym e) in λ i. (let p : Page = record { kind = kind i; body = body i } in p)
page-same false x y kind e = tt
