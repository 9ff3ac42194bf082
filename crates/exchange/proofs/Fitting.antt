-- Keeping every rule, and passing the one test of it.
use Rattle.std.proofs.Common.{◌≡◌, true, length}
use Rattle.std.proofs.lemmas.Bool.{and_from, and_parts, le-leb, leb-true}
use Rattle.exchange.specs.Exchanges.{Exchange}
use Rattle.exchange.specs.Rules.{Fit, is_fit}
use Rattle.exchange.proofs.Passing.{within_from, within_both}

pub test_from_fit : (x : Exchange) → Fit x → is_fit x ≡ true
test_from_fit x f =
    and_from _ _ f.declarations (and_from _ _ f.declared_once (
    and_from _ _ f.messages (and_from _ _ (le-leb (length x.opening) 32 f.few_messages) (
    and_from _ _ f.roles (and_from _ _ (within_from 1 4 (length x.roles) f.some_role f.few_roles) (
    and_from _ _ f.sessions (and_from _ _ (within_from 1 8 (length x.sessions) f.some_session f.few_sessions) (
    and_from _ _ f.claims (within_from 1 8 (length x.claims) f.some_claim f.few_claims)))))))))

pub fit_from_test : (x : Exchange) → is_fit x ≡ true → Fit x
fit_from_test x e =
    let a = and_parts _ _ e in
    let b = and_parts _ _ a.1 in
    let c = and_parts _ _ b.1 in
    let d = and_parts _ _ c.1 in
    let g = and_parts _ _ d.1 in
    let h = and_parts _ _ g.1 in
    let i = and_parts _ _ h.1 in
    let j = and_parts _ _ i.1 in
    let k = and_parts _ _ j.1 in
    let roles = within_both 1 4 (length x.roles) h.0 in
    let sessions = within_both 1 8 (length x.sessions) j.0 in
    let claims = within_both 1 8 (length x.claims) k.1 in
    record {
      declarations = a.0;
      declared_once = b.0;
      messages = c.0;
      few_messages = leb-true (length x.opening) 32 d.0;
      roles = g.0;
      some_role = roles.0;
      few_roles = roles.1;
      sessions = i.0;
      some_session = sessions.0;
      few_sessions = sessions.1;
      claims = k.0;
      some_claim = claims.0;
      few_claims = claims.1;
    }
