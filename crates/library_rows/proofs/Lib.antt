mod AddressRows
