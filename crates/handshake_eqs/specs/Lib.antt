pub mod Netlists
pub mod StoredNetlist
pub mod Machines
pub mod Agreement
pub mod Laws
